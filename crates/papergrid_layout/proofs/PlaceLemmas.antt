-- The cells of rows with their positions are those that the rows have there.
use Rattle.std.proofs.Common.{◌≡◌, ℕ, zero, suc, ◌+◌, ◌<◌, List, [], ◌∷◌, length, get_or, refl, sym, subst, arith}
use Rattle.std.specs.Prelude.{All, Contains}
use Rattle.std.proofs.lemmas.List.Elements.{All-append, All-cons, All-contains, All-nil, All-weaker, Contains-append_left, Contains-append_right}
use Rattle.papergrid_values.specs.declared.position.Position.{Position}
use Rattle.papergrid_walk.specs.Cells.{positioned_cells, placed_from, placed_row}
use Rattle.papergrid_layout.specs.Laws.{RowHasCell, IsCellAt}

module _ {C : Type 0} where
  -- counted from a column, or from a row, on
  abbrev IsInRow : ℕ → ℕ → List C → Position × C → Type 0
  IsInRow r c cells x = (k : ℕ) × (x.0.row ≡ r) × (x.0.col ≡ c + k) × RowHasCell cells k x.1

  abbrev IsInRows : ℕ → List (List C) → Position × C → Type 0
  IsInRows r rows x = (k : ℕ) × (x.0.row ≡ r + k) × (k < length rows) × RowHasCell (get_or rows k []) x.0.col x.1

  row-has : (r c : ℕ) (cells : List C) → All (IsInRow r c cells) (placed_row r c cells)
  row-has r c [] = All-nil (IsInRow r c [])
  row-has r c (y ∷ cells) =
      All-cons (IsInRow r c (y ∷ cells)) (record { row = r; col = c }, y) (placed_row r (c + 1) cells) (0, refl, (omega arith), ((omega arith), refl))
      (All-weaker (IsInRow r (c + 1) cells) (IsInRow r c (y ∷ cells))
      (λ x h. let at : x.0.col ≡ c + 1 + h.0 = h.2 in let l : h.0 < length cells = h.3.0 in (suc h.0, h.1, (omega arith), ((omega arith), h.3.1)))
      (placed_row r (c + 1) cells) (row-has r (c + 1) cells))

  rows-have : (r : ℕ) (rows : List (List C)) → All (IsInRows r rows) (placed_from r rows)
  rows-have r [] = All-nil (IsInRows r [])
  rows-have r (row ∷ rows) =
      All-append (IsInRows r (row ∷ rows)) (placed_row r 0 row) (placed_from (r + 1) rows)
      (All-weaker (IsInRow r 0 row) (IsInRows r (row ∷ rows))
      (λ x h. let at : x.0.col ≡ h.0 = omega (arith, h.2) in let same : x.0.row ≡ r + 0 = omega (arith, h.1) in (0, same, (omega arith), subst (λ k. RowHasCell row k x.1) (sym at) h.3))
      (placed_row r 0 row) (row-has r 0 row))
      (All-weaker (IsInRows (r + 1) rows) (IsInRows r (row ∷ rows))
      (λ x h. let at : x.0.row ≡ r + 1 + h.0 = h.1 in let l : h.0 < length rows = h.2 in (suc h.0, (omega arith), (omega arith), h.3))
      (placed_from (r + 1) rows) (rows-have (r + 1) rows))

  pub placed-has : (rows : List (List C)) (p : Position) (cell : C) → Contains (positioned_cells rows) (p, cell) → IsCellAt rows p cell
  placed-has rows p cell m =
      let h = All-contains (IsInRows 0 rows) (positioned_cells rows) (p, cell) (rows-have 0 rows) m in
      let at : p.row ≡ h.0 = omega (arith, h.1) in
      subst (λ k. (k < length rows) × RowHasCell (get_or rows k []) p.col cell) (sym at) (h.2, h.3)

  in-row : (r c k : ℕ) (cells : List C) (cell : C) → RowHasCell cells k cell → Contains (placed_row r c cells) (record { row = r; col = c + k }, cell)
  in-row r c k [] cell h = let l = h.0 in absurd (omega (arith, l))
  in-row r c zero (y ∷ cells) cell h = grind arith
  in-row r c (suc k) (y ∷ cells) cell h =
      let l : suc k < suc (length cells) = h.0 in
      subst (λ n. Contains (placed_row r c (y ∷ cells)) (record { row = r; col = n }, cell)) (let e : c + 1 + k ≡ c + suc k = omega arith in e)
      (Contains-append_right ((record { row = r; col = c }, y) ∷ []) (placed_row r (c + 1) cells) (record { row = r; col = c + 1 + k }, cell) (in-row r (c + 1) k cells cell ((omega arith), h.1)))

  in-rows : (r k : ℕ) (rows : List (List C)) (col : ℕ) (cell : C) → k < length rows → RowHasCell (get_or rows k []) col cell → Contains (placed_from r rows) (record { row = r + k; col = col }, cell)
  in-rows r k [] col cell l h = absurd (omega (arith, l))
  in-rows r zero (row ∷ rows) col cell l h =
      subst (λ n. Contains (placed_from r (row ∷ rows)) (record { row = n; col = col }, cell)) (let e : r ≡ r + 0 = omega arith in e)
      (Contains-append_left (placed_row r 0 row) (placed_from (r + 1) rows) (record { row = r; col = col }, cell)
      (subst (λ n. Contains (placed_row r 0 row) (record { row = r; col = n }, cell)) (let e : 0 + col ≡ col = omega arith in e) (in-row r 0 col row cell h)))
  in-rows r (suc k) (row ∷ rows) col cell l h =
      subst (λ n. Contains (placed_from r (row ∷ rows)) (record { row = n; col = col }, cell)) (let e : r + 1 + k ≡ r + suc k = omega arith in e)
      (Contains-append_right (placed_row r 0 row) (placed_from (r + 1) rows) (record { row = r + 1 + k; col = col }, cell) (in-rows (r + 1) k rows col cell (omega (arith, l)) h))

  pub has-placed : (rows : List (List C)) (p : Position) (cell : C) → IsCellAt rows p cell → Contains (positioned_cells rows) (p, cell)
  has-placed rows p cell h =
      subst (λ n. Contains (positioned_cells rows) (record { row = n; col = p.col }, cell)) (let e : 0 + p.row ≡ p.row = omega arith in e) (in-rows 0 p.row rows p.col cell h.0 h.1)
