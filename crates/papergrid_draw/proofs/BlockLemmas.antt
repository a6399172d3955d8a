-- The lines of a cell that are shown, and what stands in each line of its place.
use Rattle.std.proofs.Common.{◌≡◌, ℕ, ◌+◌, ◌-◌, ◌<◌, ◌≤◌, max, List, [], ◌∷◌, ◌++◌, Bool, true, false, get_or, take, drop, length, reverse, inl, inr, refl, ap, sym, subst, ◌∙◌, arith, append_assoc, get_or-drop, length-drop}
use Rattle.std.specs.Prelude.{nat_lt, if◌then◌else◌, ◌⊎◌, ◌↔◌, IsTrue}
use Rattle.std.proofs.lemmas.Bool.{lt-ltb, le-ltb}
use Rattle.std.proofs.lemmas.List.{length-take-le, reverse-append, reverse-reverse, take_more}
use Rattle.std.proofs.lemmas.List.Recursion.{max_push}
use Rattle.papergrid_values.specs.declared.alignment.AlignmentVertical.{AlignmentVertical}
use Rattle.papergrid_values.specs.declared.alignment.AlignmentVertical.TheVariants as vertical
use Rattle.papergrid_draw.specs.Bytes.{colored, piece_bytes, pieces_bytes}
use Rattle.papergrid_draw.specs.Contents as contents
use Rattle.papergrid_draw.specs.Contents.{FitsPlace, above, aligned_width, before, block_width, content, free_above, from_text, inner, is_blank, line_pieces, shown, shown_line, shown_lines}
use Rattle.papergrid_draw.specs.Pieces.{CellText, Justification, Padding, Piece, fill}
use Rattle.papergrid_draw.specs.ForProofs.Blocks.{IsFound, IsShownRange, filled_up, to_text}
use Rattle.papergrid_draw.specs.ForProofs.Pens.{fill_bytes}
use Rattle.papergrid_draw.proofs.PenLemmas.{fill_is, pieces-append}

-- a line with its width
abbrev pub Line : Type 0
Line = List ℕ × ℕ

-- ---- blank lines at the start

blank_first : (line : Line) (lines : List Line) → is_blank line ≡ true → from_text (line ∷ lines) ≡ from_text lines
blank_first line lines blank = ap (λ b. if b then from_text lines else (line ∷ lines)) blank

text_first : (line : Line) (lines : List Line) → is_blank line ≡ false → from_text (line ∷ lines) ≡ line ∷ lines
text_first line lines text = ap (λ b. if b then from_text lines else (line ∷ lines)) text

-- ---- blank lines at the end

last_first : (lines : List Line) (k : ℕ) → k < length lines → reverse (take (k + 1) lines) ≡ get_or lines k ([], 0) ∷ reverse (take k lines)
last_first lines k there = ap reverse (take_more lines k ([], 0) there) ∙ reverse-append (take k lines) (get_or lines k ([], 0) ∷ [])

skip_last : (lines : List Line) (k : ℕ) → k < length lines → is_blank (get_or lines k ([], 0)) ≡ true → from_text (reverse (take (k + 1) lines)) ≡ from_text (reverse (take k lines))
skip_last lines k there blank = ap from_text (last_first lines k there) ∙ blank_first (get_or lines k ([], 0)) (reverse (take k lines)) blank

keep_last : (lines : List Line) (k : ℕ) → k < length lines → is_blank (get_or lines k ([], 0)) ≡ false → reverse (from_text (reverse (take (k + 1) lines))) ≡ take (k + 1) lines
keep_last lines k there text =
    let split = last_first lines k there in
    ap reverse (ap from_text split ∙ text_first (get_or lines k ([], 0)) (reverse (take k lines)) text ∙ sym split)
    ∙ reverse-reverse (take (k + 1) lines)

-- the lines from `start` on, before `end`
module _ (lines : List Line) (start end : ℕ) (within : end ≤ length lines) where
  -- the last of them
  last_is : (blank : Bool) → start < end → is_blank (get_or lines (end - 1) ([], 0)) ≡ blank → is_blank (get_or (drop start lines) (end - 1 - start) ([], 0)) ≡ blank
  last_is blank some e =
      let place : start + (end - 1 - start) ≡ end - 1 = omega arith in
      ap is_blank (get_or-drop start lines (end - 1 - start) ([], 0) ∙ ap (λ n. get_or lines n ([], 0)) place) ∙ e

  last_there : start < end → end - 1 - start < length (drop start lines)
  last_there some = rw length-drop (omega arith)

  one_more : start < end → end - 1 - start + 1 ≡ end - start
  one_more some = omega arith

  -- a blank one is left out
  pub end-less : start < end → is_blank (get_or lines (end - 1) ([], 0)) ≡ true → from_text (reverse (take (end - start) (drop start lines))) ≡ from_text (reverse (take (end - 1 - start) (drop start lines)))
  end-less some blank =
      ap (λ n. from_text (reverse (take n (drop start lines)))) (sym (one_more some))
      ∙ skip_last (drop start lines) (end - 1 - start) (last_there some) (last_is true some blank)

  -- the end is found where the last is not blank
  pub end-here : start < end → is_blank (get_or lines (end - 1) ([], 0)) ≡ false → from_text (reverse (take (end - start) (drop start lines))) ≡ from_text (reverse (drop start lines)) → take (end - start) (drop start lines) ≡ to_text (drop start lines)
  end-here some text same =
      sym (ap (λ n. reverse (from_text (reverse (take n (drop start lines))))) (sym (one_more some))
      ∙ keep_last (drop start lines) (end - 1 - start) (last_there some) (last_is false some text)
      ∙ ap (λ n. take n (drop start lines)) (one_more some))
      ∙ ap reverse same

-- ---- the lines that are shown

-- so many are shown
pub count_is : (trims : Bool) (lines : List Line) (first count : ℕ) → IsShownRange trims lines first count → count ≡ length (shown_lines trims lines)
count_is trims lines first count range =
    let within : first + count ≤ length lines = range.within in
    let there : count ≤ length (drop first lines) = rw length-drop (omega arith) in
    sym (length-take-le count (drop first lines) there) ∙ ap length range.are

-- none where there is no line
pub none_shown : (trims : Bool) (lines : List Line) (first count : ℕ) → lines ≡ [] → IsShownRange trims lines first count → count ≡ 0
none_shown trims lines first count none range =
    let length_is : length lines ≡ 0 = ap length none in
    let within : first + count ≤ length lines = range.within in
    omega arith

-- ---- the greatest width

pub widest-more : (trims : Bool) (lines : List Line) (i : ℕ) → i < length lines → block_width trims (take (i + 1) lines) ≡ max (block_width trims (take i lines)) (shown_line trims (get_or lines i ([], 0))).1
widest-more trims lines i there =
    ap (block_width trims) (take_more lines i ([], 0) there)
    ∙ max_push (block_width trims) (λ line. (shown_line trims line).1) refl (λ _ _. refl) (take i lines) (get_or lines i ([], 0))

-- ---- the lines above

pub free_above-le : (alignment : AlignmentVertical) (free : ℕ) → free_above alignment free ≤ free
free_above-le vertical.Top free = omega arith
free_above-le vertical.Center free = omega arith
free_above-le vertical.Bottom free = omega arith

no_line : (lines : List Line) → length lines ≡ 0 → lines ≡ []
no_line [] none = refl
no_line (line ∷ lines) none = absurd (omega arith)

-- ---- a line of the place

second_of : (s t : Bool) (a b c : List Piece) → s ≡ false → t ≡ true → pieces_bytes (if s then a else (if t then b else c)) ≡ pieces_bytes b
second_of s t a b c other holds = ap (λ v. pieces_bytes (if v then a else (if t then b else c))) other ∙ ap (λ v. pieces_bytes (if v then b else c)) holds

third_of : (s t : Bool) (a b c : List Piece) → s ≡ false → t ≡ false → pieces_bytes (if s then a else (if t then b else c)) ≡ pieces_bytes c
third_of s t a b c other neither = ap (λ v. pieces_bytes (if v then a else (if t then b else c))) other ∙ ap (λ v. pieces_bytes (if v then b else c)) neither

module _ (b : contents.Block) (first count lines_above width : ℕ) (found : IsFound b first count lines_above width) where
  -- it has room where no line is shown, or the greatest width leaves enough
  room_from : (count ≡ 0) ⊎ (width + (b.look.padding.left.size + b.look.padding.right.size) ≤ b.width) → FitsPlace b
  room_from (inl none) = inl (no_line (shown b) (sym (count_is b.look.formatting.vertical_trim b.lines first count found.shown) ∙ none))
  room_from (inr enough) = inr (subst (λ n. n + (b.look.padding.left.size + b.look.padding.right.size) ≤ b.width) found.widest enough)

  room_to : FitsPlace b → (count ≡ 0) ⊎ (width + (b.look.padding.left.size + b.look.padding.right.size) ≤ b.width)
  room_to (inl none) = inl (count_is b.look.formatting.vertical_trim b.lines first count found.shown ∙ ap length none)
  room_to (inr enough) = inr (subst (λ n. n + (b.look.padding.left.size + b.look.padding.right.size) ≤ b.width) (sym found.widest) enough)

  pub room_is : (result : Bool) → (IsTrue result ↔ ((count ≡ 0) ⊎ (width + (b.look.padding.left.size + b.look.padding.right.size) ≤ b.width))) → IsTrue result ↔ FitsPlace b
  room_is result told = (λ holds. room_from (told.0 holds), λ room. told.1 (room_to room))

  abbrev on_top : List Piece
  on_top = fill Padding b.look.padding.top.fill b.width b.look.padding_color.top

  abbrev of_text : ℕ → List Piece
  of_text k = line_pieces b (shown_line b.look.formatting.horizontal_trim (get_or (shown b) (k - above b) ([], 0)))

  abbrev below : List Piece
  below = fill Padding b.look.padding.bottom.fill b.width b.look.padding_color.bottom

  is_not_above : (k : ℕ) → lines_above ≤ k → nat_lt k (above b) ≡ false
  is_not_above k h = le-ltb k (above b) (subst (λ n. n ≤ k) found.above_is h)

  pub content-below : (k : ℕ) → lines_above ≤ k → count ≤ k - lines_above → fill_bytes b.look.padding_color.bottom b.look.padding.bottom.fill b.width ≡ pieces_bytes (content b k)
  content-below k h past =
      let number : count ≡ length (shown b) = count_is b.look.formatting.vertical_trim b.lines first count found.shown in
      let at = found.above_is in
      let end : above b + length (shown b) ≤ k = omega arith in
      sym (third_of (nat_lt k (above b)) (nat_lt k (above b + length (shown b))) on_top (of_text k) below (is_not_above k h) (le-ltb k (above b + length (shown b)) end)
      ∙ fill_is Padding b.look.padding.bottom.fill b.width b.look.padding_color.bottom)

-- ---- a line of the text

two_bytes : (a : Piece) (b c : List Piece) → pieces_bytes (a ∷ (b ++ c)) ≡ piece_bytes a ++ (pieces_bytes b ++ pieces_bytes c)
two_bytes a b c = ap (λ more. piece_bytes a ++ more) (pieces-append b c)

five_bytes : (a b : List Piece) (text : Piece) (c d : List Piece) → pieces_bytes (a ++ b ++ text ∷ c ++ d) ≡ pieces_bytes a ++ (pieces_bytes b ++ (piece_bytes text ++ (pieces_bytes c ++ pieces_bytes d)))
five_bytes a b text c d =
    let joined : a ++ b ++ text ∷ c ++ d ≡ a ++ (b ++ (text ∷ (c ++ d))) = simp append_assoc in
    ap pieces_bytes joined ∙ pieces-append a (b ++ (text ∷ (c ++ d)))
    ∙ ap (λ more. pieces_bytes a ++ more) (pieces-append b (text ∷ (c ++ d)) ∙ ap (λ more. pieces_bytes b ++ more) (two_bytes text c d))

-- what is left after a line and what is before it
pub after_is : (after left columns start width columns' start' width' : ℕ) → after ≡ left - width → left ≡ columns - start → columns ≡ columns' → start ≡ start' → width ≡ width' → after ≡ columns' - (start' + width')
after_is after left columns start width columns' start' width' a b c d e = omega arith

-- five texts one after another
regroup : (l a b t c d : List ℕ) → ((((l ++ a) ++ b) ++ t) ++ c) ++ d ≡ l ++ (a ++ (b ++ (t ++ (c ++ d))))
regroup l a b t c d = simp append_assoc

added_five : (l l₁ l₂ l₃ l₄ l₅ a b t c d : List ℕ) → l₁ ≡ l ++ a → l₂ ≡ l₁ ++ b → l₃ ≡ l₂ ++ t → l₄ ≡ l₃ ++ c → l₅ ≡ l₄ ++ d → l₅ ≡ l ++ (a ++ (b ++ (t ++ (c ++ d))))
added_five l l₁ l₂ l₃ l₄ l₅ a b t c d one two three four five =
    five ∙ ap (λ x. x ++ d) (four ∙ ap (λ x. x ++ c) (three ∙ ap (λ x. x ++ t) (two ∙ ap (λ x. x ++ b) one)))
    ∙ regroup l a b t c d

module _ (b : contents.Block) (line : Line) where
  abbrev pub left_bytes : List ℕ
  left_bytes = fill_bytes b.look.padding_color.left b.look.padding.left.fill b.look.padding.left.size

  abbrev pub before_bytes : List ℕ
  before_bytes = fill_bytes b.look.justification_color b.look.justification (before b line)

  abbrev pub after_bytes : List ℕ
  after_bytes = fill_bytes b.look.justification_color b.look.justification (inner b - (before b line + line.1))

  abbrev pub right_bytes : List ℕ
  right_bytes = fill_bytes b.look.padding_color.right b.look.padding.right.fill b.look.padding.right.size

  line_bytes_are : pieces_bytes (line_pieces b line) ≡ left_bytes ++ (before_bytes ++ (colored b.color line.0 ++ (after_bytes ++ right_bytes)))
  line_bytes_are =
      five_bytes (fill Padding b.look.padding.left.fill b.look.padding.left.size b.look.padding_color.left) (fill Justification b.look.justification (before b line) b.look.justification_color) (record { kind = CellText; text = line.0; columns = line.1; color = b.color }) (fill Justification b.look.justification (inner b - (before b line + line.1)) b.look.justification_color) (fill Padding b.look.padding.right.fill b.look.padding.right.size b.look.padding_color.right)
      ∙ (λ i. fill_is Padding b.look.padding.left.fill b.look.padding.left.size b.look.padding_color.left i
      ++ (fill_is Justification b.look.justification (before b line) b.look.justification_color i
      ++ (colored b.color line.0
      ++ (fill_is Justification b.look.justification (inner b - (before b line + line.1)) b.look.justification_color i
      ++ fill_is Padding b.look.padding.right.fill b.look.padding.right.size b.look.padding_color.right i))))

-- ---- a line of a text between its paddings

filled_as : (l a t c d : List ℕ) → l ++ (a ++ (t ++ (c ++ d))) ≡ (((l ++ a) ++ t) ++ c) ++ d
filled_as l a t c d = simp append_assoc

-- what is added to a line, one after another
pub added_filled : (l l₁ l₂ l₃ l₄ l₅ a b t c d : List ℕ) → l₁ ≡ l ++ a → l₂ ≡ l₁ ++ b → l₃ ≡ l₂ ++ t → l₄ ≡ l₃ ++ c → l₅ ≡ l₄ ++ d →
    l₅ ≡ l ++ (a ++ b ++ t ++ c ++ d)
added_filled l l₁ l₂ l₃ l₄ l₅ a b t c d one two three four five =
    added_five l l₁ l₂ l₃ l₄ l₅ a b t c d one two three four five ∙ ap (λ text. l ++ text) (filled_as a b t c d)

-- a line of a cell is one
pub line-filled : (b : contents.Block) (line : Line) →
    filled_up b.look b.color line.0 (before b line, inner b - (before b line + line.1)) ≡ pieces_bytes (line_pieces b line)
line-filled b line =
    sym (line_bytes_are b line ∙ filled_as (left_bytes b line) (before_bytes b line) (colored b.color line.0) (after_bytes b line) (right_bytes b line))

-- ---- the only line of a cell in a place of one line

widest-only : (trims : Bool) (lines : List Line) → length lines ≡ 1 → block_width trims lines ≡ (shown_line trims (get_or lines 0 ([], 0))).1
widest-only trims [] one = absurd (omega (arith, one))
widest-only trims (line ∷ []) one = omega arith
widest-only trims (line ∷ other ∷ lines) one = absurd (omega (arith, one))

-- it as it is shown
abbrev pub only_line : contents.Block → Line
only_line b = shown_line b.look.formatting.horizontal_trim (get_or b.lines 0 ([], 0))

module _ (b : contents.Block) (single : length b.lines ≡ 1) where
  -- it is aligned by its own width
  pub aligned-only : aligned_width b (only_line b) ≡ (only_line b).1
  aligned-only =
      elim b.look.formatting.allow_lines_alignment as (λ own. (if own then (only_line b).1 else block_width b.look.formatting.horizontal_trim b.lines) ≡ (only_line b).1) [
        | true ↦ refl
        | false ↦ widest-only b.look.formatting.horizontal_trim b.lines single
      ]

  module _ (top : b.look.padding.top.size ≡ 0) (all : b.look.formatting.vertical_trim ≡ false) (low : b.height ≡ 1) where
    shown-only : shown b ≡ b.lines
    shown-only = ap (λ trims. shown_lines trims b.lines) all

    many-only : length (shown b) ≡ 1
    many-only = ap length shown-only ∙ single

    above-only : above b ≡ 0
    above-only =
        let few = free_above-le b.look.vertical (b.height - (b.look.padding.top.size + length (shown b))) in
        let many = many-only in
        omega (arith, few, many, top, low)

    -- and stands in the place
    pub content-only : pieces_bytes (line_pieces b (only_line b)) ≡ pieces_bytes (content b 0)
    content-only =
        let many = many-only in
        let none = above-only in
        sym (second_of (nat_lt 0 (above b)) (nat_lt 0 (above b + length (shown b))) (fill Padding b.look.padding.top.fill b.width b.look.padding_color.top)
        (line_pieces b (shown_line b.look.formatting.horizontal_trim (get_or (shown b) (0 - above b) ([], 0))))
        (fill Padding b.look.padding.bottom.fill b.width b.look.padding_color.bottom)
        (le-ltb 0 (above b) (omega (arith, none))) (lt-ltb 0 (above b + length (shown b)) (omega (arith, many)))
        ∙ (λ i. pieces_bytes (line_pieces b (shown_line b.look.formatting.horizontal_trim (get_or (shown-only i) (0 - none i) ([], 0))))))
