-- The positions of a whole table: they rise, and each stands there once.
use Rattle.std.proofs.Common.{◌≡◌, ◌∙◌, ap, sym, refl, inl, ℕ, zero, suc, ◌+◌, ◌<◌, ◌≤◌, ◌==◌, ◌&&◌, ◌⊎◌, nat_lt, nat_le, cond, List, [], ◌∷◌, ◌++◌, map, arith, subst}
use Rattle.std.specs.Prelude.{All, AllPairs}
use Rattle.std.proofs.lemmas.Bool.Decides.{nat_tests}
use Rattle.std.proofs.lemmas.List.Elements.{All-nil, All-head, All-tail, All-weaker, All-append}
use Rattle.std.proofs.lemmas.List.Kept.{AllPairs-cons}
use Rattle.std.proofs.lemmas.List.Sums.{sum_by-cons, sum_by-append}
use Rattle.std.specs.List.{range_with_len, flat_map}
use Rattle.papergrid_values.specs.declared.entity.Entity.TheVariants.{Global}
use Rattle.papergrid_values.specs.declared.position.Position.{Position}
use Rattle.papergrid_values.specs.Entities.{positions}
use Rattle.papergrid_values.specs.Positions.{IsBefore, count_of, position_of}

abbrev at : ℕ → ℕ → Position
at row col = position_of (row, col)

-- ---- lists whose elements rise

module _ {X : Type 0} (R : X → X → Type 0) where
  -- R holds of each element and each later one
  abbrev Rises : List X → Type 0
  Rises [] = Unit {0}
  Rises (x ∷ xs) = All (R x) xs × Rises xs

  Rises-append : (xs ys : List X) → Rises xs → Rises ys → All (λ x. All (R x) ys) xs → Rises (xs ++ ys)
  Rises-append [] ys first second across = second
  Rises-append (x ∷ xs) ys first second across = (
    All-append (R x) xs ys first.0 (All-head (λ z. All (R z) ys) x xs across),
    Rises-append xs ys first.1 second (All-tail (λ z. All (R z) ys) x xs across),
  )

  AllPairs-from_Rises : (xs : List X) → Rises xs → AllPairs R xs
  AllPairs-from_Rises [] rises = λ i j d less bound. absurd (omega arith)
  AllPairs-from_Rises (x ∷ xs) rises = AllPairs-cons R x xs rises.0 (AllPairs-from_Rises xs rises.1)

-- ---- the rows of a table

abbrev row_of : ℕ → ℕ → ℕ → List Position
row_of row first cols = map (λ col. at row col) (range_with_len first cols)

abbrev rows_of : ℕ → ℕ → ℕ → List Position
rows_of cols first rows = flat_map (λ row. row_of row 0 cols) (range_with_len first rows)

-- p stands in a row, from a column on
abbrev InRow : ℕ → ℕ → Position → Type 0
InRow row first p = (p.row ≡ row) × (first ≤ p.col)

in_row : (row first cols : ℕ) → All (InRow row first) (row_of row first cols)
in_row row first zero = All-nil (InRow row first)
in_row row first (suc cols) = grind (arith, in_row row (first + 1) cols)

in_rows : (cols first rows : ℕ) → All (λ p. first ≤ p.row) (rows_of cols first rows)
in_rows cols first zero = All-nil (λ p. first ≤ p.row)
in_rows cols first (suc rows) =
    All-append (λ p. first ≤ p.row) (row_of first 0 cols) (rows_of cols (first + 1) rows)
    (All-weaker (InRow first 0) (λ p. first ≤ p.row) (λ p here. omega arith) _ (in_row first 0 cols))
    (All-weaker (λ p. first + 1 ≤ p.row) (λ p. first ≤ p.row) (λ p later. omega arith) _ (in_rows cols (first + 1) rows))

row_rises : (row first cols : ℕ) → Rises IsBefore (row_of row first cols)
row_rises row first zero = tt
row_rises row first (suc cols) = grind (arith, in_row, row_rises row (first + 1) cols)

rows_rise : (cols first rows : ℕ) → Rises IsBefore (rows_of cols first rows)
rows_rise cols first zero = tt
rows_rise cols first (suc rows) =
    Rises-append IsBefore (row_of first 0 cols) (rows_of cols (first + 1) rows)
    (row_rises first 0 cols)
    (rows_rise cols (first + 1) rows)
    (All-weaker (InRow first 0) (λ p. All (IsBefore p) (rows_of cols (first + 1) rows))
    (λ p here. All-weaker (λ q. first + 1 ≤ q.row) (IsBefore p) (λ q later. inl (omega arith)) _ (in_rows cols (first + 1) rows))
    _ (in_row first 0 cols))

-- ---- how many times a position stands there

count_in_row : (p : Position) (row first cols : ℕ)
    → count_of p (row_of row first cols)
    ≡ cond (p.row == row && (nat_le first p.col && nat_lt p.col (first + cols))) 1 0
count_in_row p row first zero = grind (arith, nat_tests)
count_in_row p row first (suc cols) =
    sum_by-cons (λ q. cond (p.row == q.row && p.col == q.col) 1 0) (at row first) (row_of row (first + 1) cols)
    ∙ ap (λ n. cond (p.row == row && p.col == first) 1 0 + n) (count_in_row p row (first + 1) cols)
    ∙ grind (arith, nat_tests)

count_in_rows : (p : Position) (cols first rows : ℕ)
    → count_of p (rows_of cols first rows)
    ≡ cond (nat_lt p.col cols && (nat_le first p.row && nat_lt p.row (first + rows))) 1 0
count_in_rows p cols first zero = grind (arith, nat_tests)
count_in_rows p cols first (suc rows) =
    sum_by-append (λ q. cond (p.row == q.row && p.col == q.col) 1 0) (row_of first 0 cols) (rows_of cols (first + 1) rows)
    ∙ ap (λ n. n + count_of p (rows_of cols (first + 1) rows)) (count_in_row p first 0 cols)
    ∙ ap (λ n. cond (p.row == first && (nat_le 0 p.col && nat_lt p.col (0 + cols))) 1 0 + n) (count_in_rows p cols (first + 1) rows)
    ∙ grind (arith, nat_tests)

-- ---- the whole table

no_columns : (first rows : ℕ) → rows_of 0 first rows ≡ []
no_columns first zero = refl
no_columns first (suc rows) = no_columns (first + 1) rows

positions-global : (rows cols : ℕ) → positions Global rows cols ≡ rows_of cols 0 rows
positions-global zero cols = refl
positions-global (suc rows) zero = grind (arith, nat_tests, no_columns 0 (suc rows))
positions-global (suc rows) (suc cols) = grind (arith, nat_tests)

pub positions-once : (rows cols : ℕ) (p : Position) → p.row < rows → p.col < cols
    → count_of p (positions Global rows cols) ≡ 1
positions-once rows cols p above left =
    ap (count_of p) (positions-global rows cols) ∙ count_in_rows p cols 0 rows ∙ grind (arith, nat_tests)

pub positions-nothing_else : (rows cols : ℕ) (p : Position) → (rows ≤ p.row) ⊎ (cols ≤ p.col)
    → count_of p (positions Global rows cols) ≡ 0
positions-nothing_else rows cols p out =
    ap (count_of p) (positions-global rows cols) ∙ count_in_rows p cols 0 rows ∙ grind (arith, nat_tests)

pub positions-rising : (rows cols : ℕ) → AllPairs IsBefore (positions Global rows cols)
positions-rising rows cols =
    let P : List Position → Type 0 = λ xs. AllPairs IsBefore xs in
    subst P (sym (positions-global rows cols)) (AllPairs-from_Rises IsBefore (rows_of cols 0 rows) (rows_rise cols 0 rows))
