-- Texts of cells in one text, rows of them by where they begin, and what a text is cut into.
use Rattle.std.proofs.Common.{Bor, ◌≡◌, ◌∙◌, ◌+◌, ◌-◌, ◌<◌, ◌≤◌, ◌⊎◌, ℕ, zero, suc, Bool, false, List, [], ◌∷◌, ◌++◌, None, Option, Some, Result, Ok, Err, OnErr, OnOk, max, ap, append_assoc, arith, drop, get_or, inl, inr, length, length-append, refl, subst, sym, take, true, map}
use Rattle.std.specs.Prelude.{◌==◌, All, IsCharBoundary, IsUtf8, MatchOption, slice_get, slice_index, slice_range, unwrap_or}
use Rattle.std.specs.List.{after_first, before_first, position_or_len, slice_split}
use Rattle.std.proofs.Math.Seq.{drop-append_seam, take-length}
use Rattle.std.proofs.lemmas.List.{drop-append-le, drop-map, get_or_append_left, length-drop, length-map, length-take, map-append, take-append-le, take-map, take_more}
use Rattle.std.specs.Ordering.{nat_cmp, ord_max}
use Rattle.std.proofs.lemmas.Bool.{cases_lt}
use Rattle.std.proofs.lemmas.Bool.Decides.{nat_tests}
use Rattle.std.proofs.lemmas.List.Elements.{All-cons, All-head, All-nil, All-push, All-tail}
use Rattle.std.proofs.lemmas.List.Splits.{length-slice_split, slice_split_first, slice_split_none}
use Rattle.std.proofs.lemmas.List.Sums.{fails_before_first, passes_at_first}
use Rattle.std.proofs.lemmas.Str.{IsCharBoundary-after_ascii, IsCharBoundary-at_seam, IsCharBoundary-before_ascii, IsCharBoundary-end, IsUtf8-append, IsUtf8-drop, IsUtf8-take}
use Rattle.papergrid_text.proofs.Places.{no_more_than}
use Rattle.papergrid_builder.specs.BuilderStates.{in_last_row, longest, one_more_cell, rows_in, unless_last_is_empty}
use Rattle.papergrid_builder.specs.ForProofs.Texts.{AreCells, AreStarts, IsTextRange, rows_told, text_in, texts_lent}

-- ---- the longest row

pub max-of : (a b c : ℕ) → b ≡ c → ord_max nat_cmp a b ≡ max a c
max-of a b c same = grind (arith, nat_tests)

longest-append : (xs ys : List (List (List ℕ))) → longest (xs ++ ys) ≡ max (longest xs) (longest ys)
longest-append [] ys = omega arith
longest-append (x ∷ xs) ys = omega (arith, longest-append xs ys)

-- of the rows up to this one
pub longest-take : {R : Type 0} (cells : R → List (List ℕ)) (rows : List R) (i : ℕ) (d : R) (count : ℕ) → i < length rows → length (cells (get_or rows i d)) ≡ count →
    longest (map cells (take (i + 1) rows)) ≡ max (longest (map cells (take i rows))) count
longest-take cells rows i d count within is =
    ap (λ taken. longest (map cells taken)) (take_more rows i d within)
    ∙ ap longest (map-append cells (take i rows) (get_or rows i d ∷ []))
    ∙ (omega (arith, longest-append (map cells (take i rows)) (cells (get_or rows i d) ∷ []), is))

-- ---- ranges

-- a range of a list that goes on
pub range-kept : {X : Type 0} (xs more : List X) (start end : ℕ) → start ≤ end → end ≤ length xs → slice_range (xs ++ more) start end ≡ slice_range xs start end
range-kept xs more start end ordered within =
    ap (take (end - start)) (drop-append-le start xs more (omega (arith, ordered, within)))
    ∙ take-append-le (end - start) (drop start xs) more (omega (arith, ordered, within, length-drop start xs))

-- up to the end
pub range-whole : {X : Type 0} (xs : List X) (start : ℕ) → start ≤ length xs → slice_range xs start (length xs) ≡ drop start xs
range-whole xs start within = ap (λ n. take n (drop start xs)) (omega (arith, within, length-drop start xs)) ∙ take-length (drop start xs)

-- behind a list
pub range-behind : {X : Type 0} (xs more : List X) → slice_range (xs ++ more) (length xs) (length (xs ++ more)) ≡ more
range-behind xs more = range-whole (xs ++ more) (length xs) (omega (arith, length-append xs more)) ∙ drop-append_seam xs more

-- of what a list is mapped to
pub range-map : {X Y : Type 0} (f : X → Y) (xs : List X) (start end : ℕ) → slice_range (map f xs) start end ≡ map f (slice_range xs start end)
range-map f xs start end = ap (take (end - start)) (drop-map f start xs) ∙ take-map f (end - start) (drop start xs)

-- ---- cells in a text

boundary-kept : (text more : List ℕ) (i : ℕ) → IsUtf8 more → IsCharBoundary text i → IsCharBoundary (text ++ more) i
boundary-kept text more i utf8 is = elim (cases_lt i (length text)) [
  | inl within ↦ let same : slice_index (text ++ more) i ≡ slice_index text i = get_or_append_left text more 0 i within in (
    omega (arith, is.0, length-append text more),
    λ _ high. subst (λ b. 192 ≤ b) (sym same) (is.1 within (subst (λ b. 128 ≤ b) same high)),
  )
  | inr past ↦ subst (IsCharBoundary (text ++ more)) (omega (arith, past, is.0)) (IsCharBoundary-at_seam (text ++ more) text more refl utf8)
]

-- cells of a text that goes on
module _ (text more : List ℕ) (utf8 : IsUtf8 more) where
  ranges-kept : (ranges : List (ℕ × ℕ)) → All (IsTextRange text) ranges → All (IsTextRange (text ++ more)) ranges
  ranges-kept [] all = All-nil (IsTextRange (text ++ more))
  ranges-kept (r ∷ ranges) all =
      let first = All-head (IsTextRange text) r ranges all in
      All-cons (IsTextRange (text ++ more)) r ranges
      (record { ordered = first.ordered; begins = boundary-kept text more r.0 utf8 first.begins; ends = boundary-kept text more r.1 utf8 first.ends })
      (ranges-kept ranges (All-tail (IsTextRange text) r ranges all))

  pub cells-kept : (ranges : List (ℕ × ℕ)) → AreCells text ranges → AreCells (text ++ more) ranges
  cells-kept ranges are = record { utf8 = IsUtf8-append text more are.utf8 utf8; within = ranges-kept ranges are.within }

  pub texts-kept : (ranges : List (ℕ × ℕ)) → All (IsTextRange text) ranges → map (text_in (text ++ more)) ranges ≡ map (text_in text) ranges
  texts-kept [] all = refl
  texts-kept (r ∷ ranges) all =
      let first = All-head (IsTextRange text) r ranges all in
      λ i. range-kept text more r.0 r.1 first.ordered first.ends.0 i ∷ texts-kept ranges (All-tail (IsTextRange text) r ranges all) i

  -- with a cell of what is behind
  module _ (ranges : List (ℕ × ℕ)) (are : AreCells text ranges) (start end : ℕ) (starts : start ≡ length text) (ends : end ≡ length (text ++ more)) where
    pub cells-more : AreCells (text ++ more) (ranges ++ (start, end) ∷ [])
    cells-more = record {
      utf8 = IsUtf8-append text more are.utf8 utf8;
      within = All-push (IsTextRange (text ++ more)) ranges (start, end) (ranges-kept ranges are.within) (record {
        ordered = omega (arith, starts, ends, length-append text more);
        begins = subst (IsCharBoundary (text ++ more)) (sym starts) (IsCharBoundary-at_seam (text ++ more) text more refl utf8);
        ends = subst (IsCharBoundary (text ++ more)) (sym ends) (IsCharBoundary-end (text ++ more));
      });
    }

    pub texts-more : map (text_in (text ++ more)) (ranges ++ (start, end) ∷ []) ≡ map (text_in text) ranges ++ more ∷ []
    texts-more =
        map-append (text_in (text ++ more)) ranges ((start, end) ∷ [])
        ∙ (λ i. texts-kept ranges are.within i ++ slice_range (text ++ more) (starts i) (ends i) ∷ [])
        ∙ ap (λ cell. map (text_in text) ranges ++ cell ∷ []) (range-behind text more)

-- ---- rows by where they begin

pub start-within : (count start : ℕ) (starts : List ℕ) → AreStarts count (start ∷ starts) → start ≤ count
start-within count start [] is = is
start-within count start (next ∷ starts) is = omega (arith, is.0, start-within count next starts is.1)

pub starts-kept : (count more : ℕ) (starts : List ℕ) → count ≤ more → AreStarts count starts → AreStarts more starts
starts-kept count more [] le is = tt
starts-kept count more (start ∷ []) le is = omega (arith, is, le)
starts-kept count more (start ∷ next ∷ starts) le is = (is.0, starts-kept count more (next ∷ starts) le is.1)

pub starts-more : (count more : ℕ) (starts : List ℕ) → count ≤ more → AreStarts count starts → AreStarts more (starts ++ count ∷ [])
starts-more count more [] le is = le
starts-more count more (start ∷ []) le is = (is, le)
starts-more count more (start ∷ next ∷ starts) le is = (is.0, starts-more count more (next ∷ starts) le is.1)

-- one more row, of what is behind
pub rows-more : (cells more : List (List ℕ)) (starts : List ℕ) → AreStarts (length cells) starts →
    rows_told (cells ++ more) (starts ++ length cells ∷ []) ≡ rows_told cells starts ++ more ∷ []
rows-more cells more [] is = ap (λ row. row ∷ []) (drop-append_seam cells more)
rows-more cells more (start ∷ []) is =
    λ i. (range-kept cells more start (length cells) is (omega arith) ∙ range-whole cells start is) i ∷ drop-append_seam cells more i ∷ []
rows-more cells more (start ∷ next ∷ starts) is =
    λ i. range-kept cells more start next is.0 (start-within (length cells) next starts is.1) i ∷ rows-more cells more (next ∷ starts) is.1 i

in-last : (row : List (List ℕ)) (rows : List (List (List ℕ))) (cell : List ℕ) → 0 < length rows → in_last_row (row ∷ rows) cell ≡ row ∷ in_last_row rows cell
in-last row [] cell some = absurd (omega arith)
in-last row (next ∷ rows) cell some = refl

some-rows : (cells : List (List ℕ)) (start : ℕ) (starts : List ℕ) → 0 < length (rows_told cells (start ∷ starts))
some-rows cells start [] = omega arith
some-rows cells start (next ∷ starts) = omega arith

-- one more cell of the last row
rows-longer : (cells : List (List ℕ)) (cell : List ℕ) (start : ℕ) (starts : List ℕ) → AreStarts (length cells) (start ∷ starts) →
    rows_told (cells ++ cell ∷ []) (start ∷ starts) ≡ in_last_row (rows_told cells (start ∷ starts)) cell
rows-longer cells cell start [] is = ap (λ row. row ∷ []) (drop-append-le start cells (cell ∷ []) is)
rows-longer cells cell start (next ∷ starts) is =
    (λ i. range-kept cells (cell ∷ []) start next is.0 (start-within (length cells) next starts is.1) i ∷ rows-longer cells cell next starts is.1 i)
    ∙ sym (in-last (slice_range cells start next) (rows_told cells (next ∷ starts)) cell (some-rows cells next starts))

pub rows-go-on : (cells : List (List ℕ)) (cell : List ℕ) (starts : List ℕ) → AreStarts (length cells) starts → 0 < length starts →
    rows_told (cells ++ cell ∷ []) starts ≡ in_last_row (rows_told cells starts) cell
rows-go-on cells cell [] is some = absurd (omega arith)
rows-go-on cells cell (start ∷ starts) is some = rows-longer cells cell start starts is

pub first-or : (xs : List ℕ) (n : ℕ) → unwrap_or (slice_get xs 0) n ≡ get_or xs 0 n
first-or [] n = refl
first-or (x ∷ xs) n = refl

-- the first row, and those behind it
pub rows-first : (cells : List (List ℕ)) (start : ℕ) (starts : List ℕ) → AreStarts (length cells) (start ∷ starts) →
    rows_told cells (start ∷ starts) ≡ slice_range cells start (get_or starts 0 (length cells)) ∷ rows_told cells starts
rows-first cells start [] is = ap (λ row. row ∷ []) (sym (range-whole cells start is))
rows-first cells start (next ∷ starts) is = refl

pub starts-rest : (count start : ℕ) (starts : List ℕ) → AreStarts count (start ∷ starts) → AreStarts count starts
starts-rest count start [] is = tt
starts-rest count start (next ∷ starts) is = is.1

pub first-end : (count start : ℕ) (starts : List ℕ) → AreStarts count (start ∷ starts) → (start ≤ get_or starts 0 count) × (get_or starts 0 count ≤ count)
first-end count start [] is = (is, omega arith)
first-end count start (next ∷ starts) is = (is.0, start-within count next starts is.1)

-- what comes first stays so
pub first-kept : {X : Type 0} (old xs more : List X) → take (length old) xs ≡ old → take (length old) (xs ++ more) ≡ old
first-kept old xs more is = take-append-le (length old) xs more (omega (arith, ap length is, length-take (length old) xs)) ∙ is

-- a new row, where the last one does not go on or there is none
pub new-row : (goes_on : Bool) (rows : List (List (List ℕ))) (cell : List ℕ) → (goes_on ≡ false) ⊎ (rows ≡ []) → one_more_cell goes_on rows cell ≡ rows ++ (cell ∷ []) ∷ []
new-row false rows cell why = refl
new-row true rows cell (inl is) = absurd (let none : ⊥ = cc in none)
new-row true rows cell (inr none) = rw none refl

-- the rows after a call that adds a cell to the last one
pub after-push : {E : Type 0} (cells new : List (List ℕ)) (cell : List ℕ) (starts : List ℕ) (told : List (List (List ℕ))) → rows_told (cells ++ cell ∷ []) starts ≡ told →
    (result : Result (Unit {0}) E) → OnOk result (new ≡ cells ++ cell ∷ []) → OnOk result (rows_told new starts ≡ told)
after-push cells new cell starts told is (Ok x) pushed = ap (λ cs. rows_told cs starts) pushed ∙ is
after-push cells new cell starts told is (Err e) pushed = tt

-- where rows may begin after a call that adds a cell or none
pub starts-after : {E : Type 0} (cells new : List (List ℕ)) (cell : List ℕ) (starts : List ℕ) → AreStarts (length cells) starts → (result : Result (Unit {0}) E) →
    OnOk result (new ≡ cells ++ cell ∷ []) → OnErr result (new ≡ cells) → AreStarts (length new) starts
starts-after cells new cell starts are (Ok x) ok err = starts-kept (length cells) (length new) starts (omega (arith, ap length ok, length-append cells (cell ∷ []))) are
starts-after cells new cell starts are (Err e) ok err = subst (λ cs. AreStarts (length cs) starts) (sym err) are

-- the same of cells that are lent
pub starts-lent : (texts : List (Bor (List ℕ))) (cells : List (List ℕ)) (starts : List ℕ) → texts_lent texts ≡ cells → AreStarts (length cells) starts → AreStarts (length texts) starts
starts-lent texts cells starts is are = subst (λ n. AreStarts n starts) (sym (ap length is) ∙ length-map texts (λ text. text.now)) are

-- ---- what a text is cut into

-- an ASCII byte that was found
pub ascii-at : (text : List ℕ) (end at : ℕ) → at ≡ position_or_len (λ byte. byte == end) text → at < length text → end < 128 → get_or text at 0 < 128
ascii-at text end at is within ascii =
    let found = subst (λ n. (get_or text n 0 == end) ≡ true) (sym is) (passes_at_first (λ byte. byte == end) text 0 (omega (arith, is, within))) in
    grind (arith, nat_tests)

more-pieces : (piece : List ℕ) (pieces : List (List ℕ)) → 0 < length pieces → unless_last_is_empty (piece ∷ pieces) ≡ piece ∷ unless_last_is_empty pieces
more-pieces piece [] some = absurd (omega arith)
more-pieces piece (next ∷ pieces) some = refl

one-piece : (piece : List ℕ) → 0 < length piece → unless_last_is_empty (piece ∷ []) ≡ piece ∷ []
one-piece piece some = grind (arith, nat_tests)

-- the cells of what is left of a row, if something is
abbrev pub cells_left : ℕ → Option (Bor (List ℕ)) → List (List ℕ)
cells_left end None = []
cells_left end (Some rest) = slice_split (λ byte. byte == end) rest.now

-- how many bytes and ends are left
abbrev pub left_count : Option (Bor (List ℕ)) → ℕ
left_count None = 0
left_count (Some rest) = length rest.now + 1

module _ (end : ℕ) (text : List ℕ) where
  abbrev ends : ℕ → Bool
  ends byte = byte == end

  -- what stands behind the first piece, if there is an end
  abbrev pub IsBehind : Option (Bor (List ℕ)) → Type 0
  IsBehind after = MatchOption after (position_or_len ends text ≡ length text) (λ rest. (rest.now ≡ after_first ends text) × (position_or_len ends text < length text))

  whole-piece : position_or_len ends text ≡ length text → before_first ends text ≡ text
  whole-piece none = ap (λ k. take k text) none ∙ take-length text

  piece-alone : position_or_len ends text ≡ length text → slice_split ends text ≡ text ∷ []
  piece-alone none = slice_split_none ends text (λ k d within. fails_before_first ends text k d (omega arith))

  pub cells-cut : (after : Option (Bor (List ℕ))) → IsBehind after → slice_split ends text ≡ before_first ends text ∷ cells_left end after
  cells-cut None none = piece-alone none ∙ ap (λ piece. piece ∷ []) (sym (whole-piece none))
  cells-cut (Some rest) found = slice_split_first ends text 0 found.1 ∙ ap (λ left. before_first ends text ∷ slice_split ends left) (sym found.0)

  -- where there is something to cut
  module _ (some : 0 < length text) (nothing : Bor (List ℕ)) (none_left : nothing.now ≡ []) where
    pieces-cut : (after : Option (Bor (List ℕ))) → IsBehind after →
        unless_last_is_empty (slice_split ends text) ≡ before_first ends text ∷ unless_last_is_empty (slice_split ends (unwrap_or after nothing).now)
    pieces-cut None none =
        ap unless_last_is_empty (piece-alone none) ∙ one-piece text some
        ∙ (λ i. sym (whole-piece none) i ∷ unless_last_is_empty (slice_split ends (sym none_left i)))
    pieces-cut (Some rest) found =
        ap unless_last_is_empty (slice_split_first ends text 0 found.1)
        ∙ more-pieces (before_first ends text) (slice_split ends (after_first ends text)) (omega (arith, length-slice_split ends (after_first ends text)))
        ∙ ap (λ left. before_first ends text ∷ unless_last_is_empty (slice_split ends left)) (sym found.0)

-- the cells so far, one more, and those that are left
pub row-step : (end : ℕ) (whole front : List (List ℕ)) (rest : Option (Bor (List ℕ))) (text : Bor (List ℕ)) (piece : List ℕ) (after : Option (Bor (List ℕ))) →
    front ++ cells_left end rest ≡ whole → rest ≡ Some text → piece ≡ before_first (ends end text.now) text.now → IsBehind end text.now after →
    (front ++ piece ∷ []) ++ cells_left end after ≡ whole
row-step end whole front rest text piece after so is first behind =
    append_assoc front (piece ∷ []) (cells_left end after)
    ∙ ap (λ p. front ++ p ∷ cells_left end after) first ∙ ap (λ cells. front ++ cells) (sym (cells-cut end text.now after behind))
    ∙ ap (λ left. front ++ cells_left end left) (sym is) ∙ so

-- the rows so far, one more, and those that are left
pub rows-step : (cell_end row_end : ℕ) (whole front : List (List (List ℕ))) (text piece : List ℕ) (after : Option (Bor (List ℕ))) (nothing left : Bor (List ℕ)) →
    front ++ rows_in cell_end row_end text ≡ whole → 0 < length text → piece ≡ before_first (ends row_end text) text → IsBehind row_end text after → nothing.now ≡ [] →
    left ≡ unwrap_or after nothing →
    (front ++ slice_split (λ byte. byte == cell_end) piece ∷ []) ++ rows_in cell_end row_end left.now ≡ whole
rows-step cell_end row_end whole front text piece after nothing left so some first behind none_left left_is =
    append_assoc front (slice_split (λ byte. byte == cell_end) piece ∷ []) (rows_in cell_end row_end left.now)
    ∙ (λ i. front ++ slice_split (λ byte. byte == cell_end) (first i) ∷ rows_in cell_end row_end (left_is i).now)
    ∙ ap (λ pieces. front ++ map (slice_split (λ byte. byte == cell_end)) pieces) (sym (pieces-cut row_end text some nothing none_left after behind)) ∙ so

-- ---- what is UTF-8

split-utf8 : (fuel : ℕ) (end : ℕ) (text : List ℕ) → length text < fuel → end < 128 → IsUtf8 text → All IsUtf8 (slice_split (ends end text) text)
split-utf8 zero end text less ascii utf8 = absurd (omega (arith, less))
split-utf8 (suc fuel) end text less ascii utf8 = elim (cases_lt (position_or_len (ends end text) text) (length text)) [
  | inl within ↦
      let at = position_or_len (ends end text) text in
      let byte = ascii-at text end at refl within ascii in
      let after = IsUtf8-drop text (at + 1) utf8 (IsCharBoundary-after_ascii text at utf8 within byte) in
      subst (All IsUtf8) (sym (slice_split_first (ends end text) text 0 within))
      (All-cons IsUtf8 (before_first (ends end text) text) (slice_split (ends end text) (after_first (ends end text) text))
      (IsUtf8-take text at utf8 (IsCharBoundary-before_ascii text at within byte))
      (split-utf8 fuel end (drop (at + 1) text) (omega (arith, less, within, length-drop (at + 1) text)) ascii after))
  | inr past ↦
      subst (All IsUtf8) (sym (piece-alone end text (omega (arith, past, no_more_than text end)))) (All-cons IsUtf8 text [] utf8 (All-nil IsUtf8))
]

last-utf8 : (pieces : List (List ℕ)) → All IsUtf8 pieces → All IsUtf8 (unless_last_is_empty pieces)
last-utf8 [] all = all
last-utf8 (piece ∷ []) all = elim (cases_lt 0 (length piece)) [
  | inl some ↦ subst (All IsUtf8) (sym (one-piece piece some)) all
  | inr none ↦ subst (All IsUtf8) (sym (no-piece piece (omega (arith, none)))) (All-nil IsUtf8)
]
  where
    no-piece : (piece : List ℕ) → length piece ≡ 0 → unless_last_is_empty (piece ∷ []) ≡ []
    no-piece piece none = grind (arith, nat_tests)
last-utf8 (piece ∷ next ∷ pieces) all =
    All-cons IsUtf8 piece (unless_last_is_empty (next ∷ pieces)) (All-head IsUtf8 piece (next ∷ pieces) all) (last-utf8 (next ∷ pieces) (All-tail IsUtf8 piece (next ∷ pieces) all))

cells-utf8 : (end : ℕ) → end < 128 → (pieces : List (List ℕ)) → All IsUtf8 pieces → All (All IsUtf8) (map (slice_split (λ byte. byte == end)) pieces)
cells-utf8 end ascii [] all = All-nil (All IsUtf8)
cells-utf8 end ascii (piece ∷ pieces) all =
    All-cons (All IsUtf8) (slice_split (λ byte. byte == end) piece) (map (slice_split (λ byte. byte == end)) pieces)
    (split-utf8 (length piece + 1) end piece (omega arith) ascii (All-head IsUtf8 piece pieces all)) (cells-utf8 end ascii pieces (All-tail IsUtf8 piece pieces all))

-- the cells that a text is cut into
pub rows-utf8 : (cell_end row_end : ℕ) (text : List ℕ) → cell_end < 128 → row_end < 128 → IsUtf8 text → All (All IsUtf8) (rows_in cell_end row_end text)
rows-utf8 cell_end row_end text cell row utf8 =
    cells-utf8 cell_end cell (unless_last_is_empty (slice_split (λ byte. byte == row_end) text))
    (last-utf8 (slice_split (λ byte. byte == row_end) text) (split-utf8 (length text + 1) row_end text (omega arith) row utf8))
