-- How many columns the lines of a cell's place take, and where the lines of its text stand in them.
use Rattle.std.proofs.Common.{◌≡◌, ◌∙◌, ap, sym, subst, refl, inl, inr, ℕ, ◌+◌, ◌-◌, ◌<◌, ◌≤◌, ◌⊎◌, Bool, true, false, List, [], ◌∷◌, ◌++◌, get_or, length, reverse, Option, append_assoc, arith}
use Rattle.std.specs.Prelude.{◌==◌, All, if◌then◌else◌, nat_lt}
use Rattle.std.proofs.lemmas.Bool.{cases_lt, eqb-true, le-ltb, lt-ltb, ltb-false, ltb-true}
use Rattle.std.proofs.lemmas.List.{get_or-reverse, length-reverse}
use Rattle.std.proofs.lemmas.List.Elements.{All-cons, All-nil, All-tail, All-weaker}
use Rattle.std.proofs.lemmas.List.Sums.{sum_by-append, sum_by-cons}
use Rattle.papergrid_values.specs.declared.alignment.AlignmentHorizontal.{AlignmentHorizontal}
use Rattle.papergrid_values.specs.declared.alignment.AlignmentHorizontal.TheVariants as horizontal
use Rattle.papergrid_values.specs.declared.position.Position.{Position}
use Rattle.papergrid_layout.specs.Places.{IsVisibleCell}
use Rattle.papergrid_draw.specs.Contents as contents
use Rattle.papergrid_draw.specs.Contents.{FitsPlace, above, before, block_at, block_width, content, free_above, free_before, from_text, inner, is_blank, line_pieces, shown, shown_line, shown_lines}
use Rattle.papergrid_draw.specs.Drawings.{Drawing, layout_of}
use Rattle.papergrid_draw.specs.Faults.{AllHaveRoom}
use Rattle.papergrid_draw.specs.Laws.{StandAt, terminal_columns, text_piece}
use Rattle.papergrid_draw.specs.Pieces.{Justification, Kind, Padding, Piece, fill, fill_text}
use Rattle.papergrid_draw.proofs.BlockLemmas.{Line, free_above-le}

-- ---- columns of pieces

pub columns-append : (a b : List Piece) → terminal_columns (a ++ b) ≡ terminal_columns a + terminal_columns b
columns-append a b = sum_by-append (λ (piece : Piece). piece.columns) a b

pub columns-cons : (piece : Piece) (pieces : List Piece) → terminal_columns (piece ∷ pieces) ≡ piece.columns + terminal_columns pieces
columns-cons piece pieces = sum_by-cons (λ (p : Piece). p.columns) piece pieces

one_or_none : (none : Bool) (piece : Piece) → (piece.columns == 0) ≡ none → terminal_columns (if none then [] else (piece ∷ [])) ≡ piece.columns
one_or_none true piece is = sym (eqb-true piece.columns 0 is)
one_or_none false piece is = let one = columns-cons piece [] in omega (arith, one)

-- what fills up takes as many as its characters
pub columns-fill : (kind : Kind) (character n : ℕ) (color : Option (List ℕ × List ℕ)) → terminal_columns (fill kind character n color) ≡ n
columns-fill kind character n color =
    one_or_none (n == 0) (record { kind = kind; text = fill_text character n; columns = n; color = color }) refl

columns-five : (a b : List Piece) (text : Piece) (c d : List Piece) →
    terminal_columns (a ++ b ++ text ∷ c ++ d) ≡ terminal_columns a + (terminal_columns b + (text.columns + (terminal_columns c + terminal_columns d)))
columns-five a b text c d =
    let joined : a ++ b ++ text ∷ c ++ d ≡ a ++ (b ++ (text ∷ (c ++ d))) = simp append_assoc in
    ap terminal_columns joined
    ∙ columns-append a (b ++ (text ∷ (c ++ d)))
    ∙ ap (λ n. terminal_columns a + n) (columns-append b (text ∷ (c ++ d))
    ∙ ap (λ n. terminal_columns b + n) (columns-cons text (c ++ d)
    ∙ ap (λ n. text.columns + n) (columns-append c d)))

-- ---- pieces that stand among others

around : (a p m s b : List Piece) → a ++ ((p ++ (m ++ s)) ++ b) ≡ (a ++ p) ++ (m ++ (s ++ b))
around a p m s b = simp append_assoc

-- what stands in a part of a line stands in the line
pub stands-within : (line part pieces : List Piece) (x y : ℕ) → StandAt line x part → StandAt part y pieces → StandAt line (x + y) pieces
stands-within line part pieces x y outside inside = (
  outside.0 ++ inside.0,
  inside.1 ++ outside.1,
  outside.2
      ∙ ap (λ middle. outside.0 ++ (middle ++ outside.1)) inside.2
      ∙ around outside.0 inside.0 pieces inside.1 outside.1,
  columns-append outside.0 inside.0 ∙ (λ i. outside.3 i + inside.3 i),
)

-- ---- the lines that are shown are lines of the text

pub All-reverse : {X : Type 0} (P : X → Type 0) (xs : List X) → All P xs → All P (reverse xs)
All-reverse P xs all = λ k d below.
    let there : k < length xs = subst (λ n. k < n) (length-reverse xs) below in
    subst P (sym (get_or-reverse xs k d there)) (all (length xs - 1 - k) d (omega arith))

All-from_text : (P : Line → Type 0) (lines : List Line) → All P lines → All P (from_text lines)
All-from_text P [] all = all
All-from_text P (line ∷ lines) all =
    elim (is_blank line) as (λ blank. All P (if blank then from_text lines else (line ∷ lines))) [
      | true ↦ All-from_text P lines (All-tail P line lines all)
      | false ↦ all
    ]

pub All-shown : (P : Line → Type 0) (trims : Bool) (lines : List Line) → All P lines → All P (shown_lines trims lines)
All-shown P true lines all =
    All-reverse P (from_text (reverse (from_text lines)))
    (All-from_text P (reverse (from_text lines)) (All-reverse P (from_text lines) (All-from_text P lines all)))
All-shown P false lines all = all

-- and none of those is wider than the greatest width
no-wider : (trims : Bool) (lines : List Line) → All (λ line. (shown_line trims line).1 ≤ block_width trims lines) lines
no-wider trims [] = All-nil (λ line. (shown_line trims line).1 ≤ block_width trims [])
no-wider trims (line ∷ lines) =
    All-cons (λ other. (shown_line trims other).1 ≤ block_width trims (line ∷ lines)) line lines (omega arith)
    (All-weaker (λ other. (shown_line trims other).1 ≤ block_width trims lines)
    (λ other. (shown_line trims other).1 ≤ block_width trims (line ∷ lines)) (λ other le. omega arith) lines (no-wider trims lines))

-- ---- a line between its paddings

free_before-le : (alignment : AlignmentHorizontal) (free : ℕ) → free_before alignment free ≤ free
free_before-le horizontal.Left free = omega arith
free_before-le horizontal.Center free = omega arith
free_before-le horizontal.Right free = omega arith

aligned-fits : (alignment : AlignmentHorizontal) (own : Bool) (columns width widest : ℕ) → width ≤ widest → widest ≤ columns →
    free_before alignment (columns - (if own then width else widest)) + width ≤ columns
aligned-fits alignment true columns width widest narrow fits =
    let le : free_before alignment (columns - width) ≤ columns - width = free_before-le alignment (columns - width) in
    omega arith
aligned-fits alignment false columns width widest narrow fits =
    let le : free_before alignment (columns - widest) ≤ columns - widest = free_before-le alignment (columns - widest) in
    omega arith

module _ (b : contents.Block) where
  -- line number i of those that are shown, as it is shown
  abbrev pub line_at : ℕ → Line
  line_at i = shown_line b.look.formatting.horizontal_trim (get_or (shown b) i ([], 0))

  -- it stands between the paddings
  pub record FitsBetween (line : Line) : Type 0 where
    pub sides : b.look.padding.left.size + b.look.padding.right.size ≤ b.width
    pub fits : before b line + line.1 ≤ inner b

  -- each has room there
  pub line-fits : FitsPlace b → (i : ℕ) → i < length (shown b) → FitsBetween (line_at i)
  line-fits (inl none) i below = let empty : length (shown b) ≡ 0 = ap length none in absurd (omega arith)
  line-fits (inr room) i below =
      let trims = b.look.formatting.horizontal_trim in
      let narrow : (line_at i).1 ≤ block_width trims b.lines =
      All-shown (λ line. (shown_line trims line).1 ≤ block_width trims b.lines) b.look.formatting.vertical_trim b.lines (no-wider trims b.lines) i ([], 0) below in
      record {
        sides = omega (arith, room);
        fits = aligned-fits b.look.horizontal b.look.formatting.allow_lines_alignment (inner b) (line_at i).1 (block_width trims b.lines) narrow (omega (arith, room));
      }

  module _ (line : Line) where
    abbrev left : List Piece
    left = fill Padding b.look.padding.left.fill b.look.padding.left.size b.look.padding_color.left

    abbrev start : List Piece
    start = fill Justification b.look.justification (before b line) b.look.justification_color

    abbrev rest : List Piece
    rest = fill Justification b.look.justification (inner b - (before b line + line.1)) b.look.justification_color

    abbrev right : List Piece
    right = fill Padding b.look.padding.right.fill b.look.padding.right.size b.look.padding_color.right

    left-is : terminal_columns left ≡ b.look.padding.left.size
    left-is = columns-fill Padding b.look.padding.left.fill b.look.padding.left.size b.look.padding_color.left

    start-is : terminal_columns start ≡ before b line
    start-is = columns-fill Justification b.look.justification (before b line) b.look.justification_color

    -- it is as wide as the place
    columns-line : FitsBetween line → terminal_columns (line_pieces b line) ≡ b.width
    columns-line between =
        let parts : terminal_columns (line_pieces b line) ≡ terminal_columns left + (terminal_columns start + (line.1 + (terminal_columns rest + terminal_columns right))) =
        columns-five left start (text_piece b line) rest right in
        let rest-is : terminal_columns rest ≡ inner b - (before b line + line.1) =
        columns-fill Justification b.look.justification (inner b - (before b line + line.1)) b.look.justification_color in
        let right-is : terminal_columns right ≡ b.look.padding.right.size =
        columns-fill Padding b.look.padding.right.fill b.look.padding.right.size b.look.padding_color.right in
        omega (arith, parts, left-is, start-is, rest-is, right-is, between.sides, between.fits)

    -- its text stands after the padding and what aligns it
    pub text-stands : StandAt (line_pieces b line) (b.look.padding.left.size + before b line) (text_piece b line ∷ [])
    text-stands = (
      left ++ start,
      rest ++ right,
      (let joined : left ++ start ++ text_piece b line ∷ rest ++ right ≡ (left ++ start) ++ (text_piece b line ∷ (rest ++ right)) = simp append_assoc in joined),
      columns-append left start ∙ (λ i. left-is i + start-is i),
    )

  -- ---- each line of a place

  -- is as wide as that
  pub columns-content : FitsPlace b → (k : ℕ) → terminal_columns (content b k) ≡ b.width
  columns-content room k = in_case (nat_lt k (above b)) (nat_lt k (above b + length (shown b))) refl refl
    where
      in_case : (s t : Bool) → nat_lt k (above b) ≡ s → nat_lt k (above b + length (shown b)) ≡ t →
          terminal_columns (if s then fill Padding b.look.padding.top.fill b.width b.look.padding_color.top
          else (if t then line_pieces b (line_at (k - above b))
          else fill Padding b.look.padding.bottom.fill b.width b.look.padding_color.bottom)) ≡ b.width
      in_case true t first second = columns-fill Padding b.look.padding.top.fill b.width b.look.padding_color.top
      in_case false true first second =
          let from : above b ≤ k = ltb-false k (above b) first in
          let to : k < above b + length (shown b) = ltb-true k (above b + length (shown b)) second in
          columns-line (line_at (k - above b)) (line-fits room (k - above b) (omega arith))
      in_case false false first second = columns-fill Padding b.look.padding.bottom.fill b.width b.look.padding_color.bottom

  -- the lines that are shown come after those above
  pub content-line : (i : ℕ) → i < length (shown b) → content b (above b + i) ≡ line_pieces b (line_at i)
  content-line i below =
      let first : nat_lt (above b + i) (above b) ≡ false = le-ltb (above b + i) (above b) (omega arith) in
      let second : nat_lt (above b + i) (above b + length (shown b)) ≡ true = lt-ltb (above b + i) (above b + length (shown b)) (omega arith) in
      let place : above b + i - above b ≡ i = omega arith in
      (λ j. if first j then fill Padding b.look.padding.top.fill b.width b.look.padding_color.top
      else (if second j then line_pieces b (line_at (place j))
      else fill Padding b.look.padding.bottom.fill b.width b.look.padding_color.bottom))

  -- and within the place, where the padding above leaves room for them
  pub above-within : b.look.padding.top.size + length (shown b) ≤ b.height → (i : ℕ) → i < length (shown b) → above b + i < b.height
  above-within high i below =
      let free : free_above b.look.vertical (b.height - (b.look.padding.top.size + length (shown b))) ≤ b.height - (b.look.padding.top.size + length (shown b)) =
      free_above-le b.look.vertical (b.height - (b.look.padding.top.size + length (shown b))) in
      omega (arith, high, below, free)

-- ---- room

-- a cell has room or not
room_or : (b : contents.Block) → FitsPlace b ⊎ (FitsPlace b → ⊥)
room_or b = elim (cases_lt b.width (block_width b.look.formatting.horizontal_trim b.lines + (b.look.padding.left.size + b.look.padding.right.size))) [
  | inl narrow ↦ by_lines narrow (shown b) refl
  | inr enough ↦ inl (inr enough)
]
  where
    by_lines : b.width < block_width b.look.formatting.horizontal_trim b.lines + (b.look.padding.left.size + b.look.padding.right.size) →
        (lines : List Line) → shown b ≡ lines → FitsPlace b ⊎ (FitsPlace b → ⊥)
    by_lines narrow [] is = inl (inl is)
    by_lines narrow (line ∷ lines) is = inr (λ room. elim room [
      | inl none ↦ (let both : length (line ∷ lines) ≡ 0 = ap length (sym is ∙ none) in absurd (omega arith))
      | inr enough ↦ omega (arith, narrow, enough)
    ])

-- so each visible cell has, if none lacks it
pub has-room : (d : Drawing) (p : Position) → AllHaveRoom d → IsVisibleCell (layout_of d) p → FitsPlace (block_at d p)
has-room d p all cell = elim (room_or (block_at d p)) [
  | inl room ↦ room
  | inr lacks ↦ absurd (all p (record { is_cell = cell; lacks = lacks }))
]
