-- Which line of a drawn table is which, and that each is as wide as the table.
use Rattle.std.proofs.Common.{◌≡◌, ◌∙◌, ap, sym, refl, inl, inr, ℕ, zero, suc, ◌+◌, ◌-◌, ◌<◌, ◌≤◌, ◌⊎◌, Bool, true, false, cond, List, [], ◌∷◌, ◌++◌, Some, length, map, arith}
use Rattle.std.specs.Prelude.{All, if◌then◌else◌, slice_get}
use Rattle.std.specs.List.{flat_map, range_with_len}
use Rattle.std.proofs.lemmas.Bool.{cases_Bool, cases_lt}
use Rattle.std.proofs.lemmas.List.Elements.{All-append, All-cons, All-nil}
use Rattle.std.proofs.lemmas.Option.{none-some}
use Rattle.papergrid_values.specs.declared.direction.Direction.TheVariants.{Columns}
use Rattle.papergrid_layout.specs.Places.{extent, line_offset, offset, total_along}
use Rattle.papergrid_layout.proofs.MarkLemmas.{extent-end}
use Rattle.papergrid_layout.proofs.PlaceSums.{line-before, offset-after}
use Rattle.papergrid_draw.specs.Drawings.{Drawing, layout_of}
use Rattle.papergrid_draw.specs.Drawn.{DrawnLine, RuleLine, TextLine, drawn_lines, draws_horizontal, row_lines, rule_line, rule_lines, text_line}
use Rattle.papergrid_draw.specs.Faults.{AllHaveRoom}
use Rattle.papergrid_draw.specs.Laws.{terminal_columns, pieces_of}
use Rattle.papergrid_draw.specs.Tiles.{IsTiled}
use Rattle.papergrid_draw.specs.ForProofs.Pages.{row_start, text_start}
use Rattle.papergrid_draw.proofs.ColumnLemmas.{columns-text_line}
use Rattle.papergrid_draw.proofs.OverLemmas.{columns-rule_line}
use Rattle.papergrid_draw.proofs.PrinterLemmas.{first_rows, length-first_rows, length-rule_lines, text-after}
use Rattle.papergrid_draw.proofs.RangeLemmas.{cut-at}

-- ---- elements by their numbers

pub get-left : {X : Type 0} (xs ys : List X) (k : ℕ) (x : X) → slice_get xs k ≡ Some x → slice_get (xs ++ ys) k ≡ Some x
get-left [] ys k x is = absurd (none-some x is)
get-left (y ∷ xs) ys zero x is = is
get-left (y ∷ xs) ys (suc k) x is = get-left xs ys k x is

pub get-right : {X : Type 0} (xs ys : List X) (k n : ℕ) → k ≡ length xs + n → slice_get (xs ++ ys) k ≡ slice_get ys n
get-right [] ys k n at = ap (slice_get ys) (let e : k ≡ n = omega arith in e)
get-right (x ∷ xs) ys zero n at = absurd (omega arith)
get-right (x ∷ xs) ys (suc k) n at = get-right xs ys k n (omega arith)

get-mapped : {X : Type 0} (f : ℕ → X) (a n k j : ℕ) → k < n → j ≡ a + k → slice_get (map f (range_with_len a n)) k ≡ Some (f j)
get-mapped f a zero k j below at = absurd (omega arith)
get-mapped f a (suc n) zero j below at = ap (λ m. Some (f m)) (let e : a ≡ j = omega arith in e)
get-mapped f a (suc n) (suc k) j below at = get-mapped f (a + 1) n k j (omega arith) (omega arith)

-- ---- what holds of each

pub All-mapped : {X : Type 0} (P : X → Type 0) (f : ℕ → X) (a n : ℕ) → ((k : ℕ) → k < a + n → P (f k)) → All P (map f (range_with_len a n))
All-mapped P f a zero each = All-nil P
All-mapped P f a (suc n) each =
    All-cons P (f a) (map f (range_with_len (a + 1) n)) (each a (omega arith))
    (All-mapped P f (a + 1) n (λ k below. each k (omega arith)))

pub All-joined : {X : Type 0} (P : X → Type 0) (f : ℕ → List X) (a n : ℕ) → ((k : ℕ) → k < a + n → All P (f k)) → All P (flat_map f (range_with_len a n))
All-joined P f a zero each = All-nil P
All-joined P f a (suc n) each =
    All-append P (f a) (flat_map f (range_with_len (a + 1) n)) (each a (omega arith))
    (All-joined P f (a + 1) n (λ k below. each k (omega arith)))

module _ (d : Drawing) where
  -- ---- lines by their numbers

  -- line n of row r, the line before it among them
  line-of-row : (r n : ℕ) (line : DrawnLine) → r < d.shape.0 → slice_get (row_lines d r) n ≡ Some line → slice_get (drawn_lines d) (row_start d r + n) ≡ Some line
  line-of-row r n line row_in is =
      let later = flat_map (row_lines d) (range_with_len (r + 1) (d.shape.0 - (r + 1))) in
      let at : row_start d r + n ≡ length (first_rows d r) + n = ap (λ m. m + n) (sym (length-first_rows d r)) in
      get-left (flat_map (row_lines d) (range_with_len 0 d.shape.0)) (rule_lines d d.shape.0) (row_start d r + n) line
      (ap (λ lines. slice_get lines (row_start d r + n)) (cut-at (row_lines d) d.shape.0 r row_in)
      ∙ get-right (first_rows d r) (row_lines d r ++ later) (row_start d r + n) n at
      ∙ get-left (row_lines d r) later n line is)

  pub text_line-at : (r k : ℕ) → r < d.shape.0 → k < d.heights r → slice_get (drawn_lines d) (text_start d r + k) ≡ Some (TextLine (text_line d r k))
  text_line-at r k row_in below =
      let n = cond (draws_horizontal d r) 1 0 + k in
      let at : text_start d r + k ≡ row_start d r + (cond (draws_horizontal d r) 1 0 + k) = let after = text-after d r in omega (arith, after) in
      let there : cond (draws_horizontal d r) 1 0 + k ≡ length (rule_lines d r) + k = ap (λ m. m + k) (sym (length-rule_lines d r)) in
      ap (slice_get (drawn_lines d)) at
      ∙ line-of-row r n (TextLine (text_line d r k)) row_in
      (get-right (rule_lines d r) (map (λ i. TextLine (text_line d r i)) (range_with_len 0 (d.heights r))) n k there
      ∙ get-mapped (λ i. TextLine (text_line d r i)) 0 (d.heights r) k k below (omega arith))

  rule-there : (i : ℕ) → draws_horizontal d i ≡ true → rule_lines d i ≡ RuleLine (rule_line d i) ∷ []
  rule-there i line = ap (λ b. if b then RuleLine (rule_line d i) ∷ [] else []) line

  pub rule_line-at : (i : ℕ) → i ≤ d.shape.0 → draws_horizontal d i ≡ true → slice_get (drawn_lines d) (row_start d i) ≡ Some (RuleLine (rule_line d i))
  rule_line-at i within line = elim (cases_lt i d.shape.0) [
    | inl before ↦
        ap (slice_get (drawn_lines d)) (let e : row_start d i ≡ row_start d i + 0 = omega arith in e)
        ∙ line-of-row i 0 (RuleLine (rule_line d i)) before
        (ap (λ lines. slice_get (lines ++ map (λ k. TextLine (text_line d i k)) (range_with_len 0 (d.heights i))) 0) (rule-there i line))
    | inr past ↦
        let end : d.shape.0 ≡ i = omega (arith, past, within) in
        let at : row_start d i ≡ length (first_rows d i) + 0 = let known = length-first_rows d i in omega (arith, known) in
        ap (λ n. slice_get (first_rows d n ++ rule_lines d n) (row_start d i)) end
        ∙ get-right (first_rows d i) (rule_lines d i) (row_start d i) 0 at
        ∙ ap (λ lines. slice_get lines 0) (rule-there i line)
  ]

  -- ---- what is so of all lines

  module _ (P : DrawnLine → Type 0) (text : (r k : ℕ) → r < d.shape.0 → P (TextLine (text_line d r k))) (rule : (i : ℕ) → P (RuleLine (rule_line d i))) where
    of-rules : (i : ℕ) → All P (rule_lines d i)
    of-rules i = in_case (draws_horizontal d i)
      where
        in_case : (line : Bool) → All P (if line then RuleLine (rule_line d i) ∷ [] else [])
        in_case true = All-cons P (RuleLine (rule_line d i)) [] (rule i) (All-nil P)
        in_case false = All-nil P

    of-row : (r : ℕ) → r < d.shape.0 → All P (row_lines d r)
    of-row r row_in =
        All-append P (rule_lines d r) (map (λ k. TextLine (text_line d r k)) (range_with_len 0 (d.heights r))) (of-rules r)
        (All-mapped P (λ k. TextLine (text_line d r k)) 0 (d.heights r) (λ k below. text r k row_in))

    -- what is so of each line of a row, and of each horizontal line
    pub All-drawn : All P (drawn_lines d)
    All-drawn =
        All-append P (flat_map (row_lines d) (range_with_len 0 d.shape.0)) (rule_lines d d.shape.0)
        (All-joined P (row_lines d) 0 d.shape.0 (λ r below. of-row r (omega (arith, below)))) (of-rules d.shape.0)

  -- each is as wide as the table
  pub all-wide : IsTiled (layout_of d) → AllHaveRoom d → All (λ line. terminal_columns (pieces_of line) ≡ total_along (layout_of d) Columns) (drawn_lines d)
  all-wide tiled room =
      All-drawn (λ line. terminal_columns (pieces_of line) ≡ total_along (layout_of d) Columns)
      (λ r k row_in. columns-text_line d tiled room r k row_in) (λ i. columns-rule_line d tiled i room)

-- ---- what stands in a range of rows

-- a line of the table is one of row r, or the horizontal line i, of the rows of a range and the lines inside of it
pub record IsOfRow (size : ℕ → ℕ) (line : ℕ → Bool) (s n y r : ℕ) : Type 0 where
  pub from : s ≤ r
  pub to : r < s + n
  pub begun : offset size line r ≤ y
  pub before_end : y < offset size line r + size r

pub record IsLineInside (size : ℕ → ℕ) (line : ℕ → Bool) (s n y i : ℕ) : Type 0 where
  pub after : s < i
  pub to : i < s + n
  pub drawn : line i ≡ true
  pub here : y ≡ line_offset size line i

module _ (size : ℕ → ℕ) (line : ℕ → Bool) where
  abbrev pub IsRowOrLine : ℕ → ℕ → ℕ → Type 0
  IsRowOrLine s n y = ((r : ℕ) × IsOfRow size line s n y r) ⊎ ((i : ℕ) × IsLineInside size line s n y i)

  one-wider : (s n y : ℕ) → IsRowOrLine s n y → IsRowOrLine s (suc n) y
  one-wider s n y (inl row) =
      inl (row.0, record { from = row.1.from; to = omega (arith, row.1.to); begun = row.1.begun; before_end = row.1.before_end })
  one-wider s n y (inr inside) =
      inr (inside.0, record { after = inside.1.after; to = omega (arith, inside.1.to); drawn = inside.1.drawn; here = inside.1.here })

  -- before the last row come those before it, and then its horizontal line
  before-last : (s n y : ℕ) → (y < offset size line s + extent size line s n → IsRowOrLine s n y) → offset size line s ≤ y → y < offset size line (s + n) → IsRowOrLine s (suc n) y
  before-last s n y earlier from before = elim (cases_lt 0 n) [
    | inr none ↦
        let same : offset size line (s + n) ≡ offset size line s = ap (offset size line) (let e : s + n ≡ s = omega arith in e) in
        absurd (omega arith)
    | inl some ↦
        let after : offset size line (s + n) ≡ offset size line s + extent size line s n + cond (line (s + n)) 1 0 = offset-after size line s n some in
        let at : offset size line (s + n) ≡ line_offset size line (s + n) + cond (line (s + n)) 1 0 = line-before size line (s + n) in
        elim (cases_lt y (offset size line s + extent size line s n)) [
          | inl within ↦ one-wider s n y (earlier within)
          | inr past ↦ elim (cases_Bool (line (s + n))) [
            | inl drawn ↦
                let one : cond {A = ℕ} (line (s + n)) 1 0 ≡ 1 = ap (λ b. cond {A = ℕ} b 1 0) drawn in
                inr (s + n, record { after = omega arith; to = omega arith; drawn = drawn; here = omega arith })
            | inr none ↦
                let nothing : cond {A = ℕ} (line (s + n)) 1 0 ≡ 0 = ap (λ b. cond {A = ℕ} b 1 0) none in
                absurd (omega arith)
          ]
        ]
  ]

  -- one of both is so of each line of a range
  pub row-or-line : (s n y : ℕ) → offset size line s ≤ y → y < offset size line s + extent size line s n → IsRowOrLine s n y
  row-or-line s zero y from to = let none : extent size line s 0 ≡ 0 = refl in absurd (omega arith)
  row-or-line s (suc n) y from to =
      let ends : offset size line s + extent size line s (suc n) ≡ offset size line (s + n) + size (s + n) =
      extent-end size line s (suc n) (s + n) (omega arith) (omega arith) in
      elim (cases_lt y (offset size line (s + n))) [
        | inl before ↦ before-last s n y (row-or-line s n y from) from before
        | inr after ↦ inl (s + n, record { from = omega arith; to = omega arith; begun = after; before_end = omega arith })
      ]
