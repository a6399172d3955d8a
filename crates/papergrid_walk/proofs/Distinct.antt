-- Cells of rows that records yield stand by row and then by column, so no two of them at one position.
use Rattle.std.proofs.Common.{◌≡◌, ℕ, ◌+◌, ◌<◌, ◌≤◌, ◌≢◌, inl, inr, List, [], ◌∷◌, ◌++◌, get_or, length, map, sym, arith, suc}
use Rattle.std.specs.Prelude.{All, AllPairs, true}
use Rattle.std.proofs.lemmas.List.Elements.{All-append, All-filter, All-map, All-nil, All-weaker}
use Rattle.std.proofs.lemmas.List.Kept.{AllPairs-cons, AllPairs-filter}
use Rattle.papergrid_values.specs.declared.position.Position.{Position}
use Rattle.papergrid_values.specs.declared.direction.Direction.{Direction}
use Rattle.papergrid_values.specs.declared.direction.Direction.TheVariants.{Columns, Rows}
use Rattle.papergrid_tracks.specs.declared.demand.Demand.{Demand}
use Rattle.papergrid_tracks.specs.declared.demands.Demands.{Demands}
use Rattle.papergrid_tracks.specs.ForProofs.Checks.{AreDistinct}
use Rattle.papergrid_tracks.specs.Ranges.{position_of}
use Rattle.papergrid_tracks.specs.ForProofs.Demands.{HoldsDemands, AreGathered, StandInOrder, is_single}
use Rattle.papergrid_tracks.proofs.DemandLemmas.{below-own_limit}
use Rattle.papergrid_values.specs.Positions.{IsBefore}
use Rattle.papergrid_walk.specs.Cells.{demand_by, count_along, demands_of, positioned_cells, placed_from, placed_row, visible_cells}
use Rattle.papergrid_walk.specs.ForProofs.Limits.{limit_along}
use Rattle.papergrid_maps.specs.Grids.{Grid}

pub count-le : (direction : Direction) (columns n : ℕ) → n < 18446744073709551616 → count_along direction columns n ≤ limit_along direction columns
count-le Columns columns n l = omega arith
count-le Rows columns n l = omega arith

differ : (a b : Demand) → IsBefore (position_of a) (position_of b) → position_of a ≢ position_of b
differ a b before e = grind arith

module _ {C : Type 0} where
  abbrev pub Precedes : Position × C → Position × C → Type 0
  Precedes x y = IsBefore x.0 y.0

  abbrev IsRight : ℕ → ℕ → Position × C → Type 0
  IsRight r c x = (x.0.row ≡ r) × (c ≤ x.0.col)

  abbrev IsBelow : ℕ → Position × C → Type 0
  IsBelow r x = r ≤ x.0.row

  row-right : (r c : ℕ) (cells : List C) → All (IsRight r c) (placed_row r c cells)
  row-right r c [] = All-nil (IsRight r c)
  row-right r c (x ∷ cells) = grind (arith, row-right r (c + 1) cells)

  from-below : (r : ℕ) (rows : List (List C)) → All (IsBelow r) (placed_from r rows)
  from-below r [] = All-nil (IsBelow r)
  from-below r (row ∷ rows) =
      All-append (IsBelow r) (placed_row r 0 row) (placed_from (r + 1) rows)
      (All-weaker (IsRight r 0) (IsBelow r) (λ y h. let e : y.0.row ≡ r = h.0 in omega arith) (placed_row r 0 row) (row-right r 0 row))
      (All-weaker (IsBelow (r + 1)) (IsBelow r) (λ y h. let l : r + 1 ≤ y.0.row = h in omega arith) (placed_from (r + 1) rows) (from-below (r + 1) rows))

  -- a cell precedes those right of it, and those below
  right-precedes : (r c : ℕ) (x : C) (y : Position × C) → IsRight r (c + 1) y → Precedes (record { row = r; col = c }, x) y
  right-precedes r c x y h = let same : y.0.row ≡ r = h.0 in let l : c + 1 ≤ y.0.col = h.1 in inr (sym same, (omega arith))

  below-precedes : (r c : ℕ) (x : C) (y : Position × C) → IsBelow (r + 1) y → Precedes (record { row = r; col = c }, x) y
  below-precedes r c x y h = let l : r + 1 ≤ y.0.row = h in inl (omega arith)

  row-precede : (r c : ℕ) (cells : List C) (rest : List (Position × C)) → All (IsBelow (r + 1)) rest → AllPairs Precedes rest → AllPairs Precedes (placed_row r c cells ++ rest)
  row-precede r c [] rest below precede = precede
  row-precede r c (x ∷ cells) rest below precede =
      AllPairs-cons Precedes (record { row = r; col = c }, x) (placed_row r (c + 1) cells ++ rest)
      (All-append (Precedes (record { row = r; col = c }, x)) (placed_row r (c + 1) cells) rest
      (All-weaker (IsRight r (c + 1)) (Precedes (record { row = r; col = c }, x)) (λ y h. right-precedes r c x y h) (placed_row r (c + 1) cells) (row-right r (c + 1) cells))
      (All-weaker (IsBelow (r + 1)) (Precedes (record { row = r; col = c }, x)) (λ y h. below-precedes r c x y h) rest below))
      (row-precede r (c + 1) cells rest below precede)

  pub from-precede : (r : ℕ) (rows : List (List C)) → AllPairs Precedes (placed_from r rows)
  from-precede r [] = λ i j d l l'. absurd (omega arith)
  from-precede r (row ∷ rows) = row-precede r 0 row (placed_from (r + 1) rows) (from-below (r + 1) rows) (from-precede (r + 1) rows)

  -- no row comes after the last
  from-above : (n r : ℕ) (rows : List (List C)) → r + length rows ≤ n → All (λ x. x.0.row < n) (placed_from r rows)
  from-above n r [] le = All-nil (λ x. x.0.row < n)
  from-above n r (row ∷ rows) le =
      All-append (λ x. x.0.row < n) (placed_row r 0 row) (placed_from (r + 1) rows)
      (All-weaker (IsRight r 0) (λ x. x.0.row < n) (λ y h. let e : y.0.row ≡ r = h.0 in omega arith) (placed_row r 0 row) (row-right r 0 row))
      (from-above n (r + 1) rows (omega arith))

  -- the limit of a walk tells which of the single cells are in the table
  pub below-limit : (direction : Direction) (grid : Grid) (measure : C → ℕ × ℕ) (columns : ℕ) (rows : List (List C)) →
      All (λ d. is_single (limit_along direction columns) d ≡ true → d.start < count_along direction columns (length rows)) (demands_of direction grid measure rows)
  below-limit Columns grid measure columns rows = below-own_limit columns (demands_of Columns grid measure rows)
  below-limit Rows grid measure columns rows =
      All-map (λ d. is_single (limit_along Rows columns) d ≡ true → d.start < length rows) (demand_by Rows grid measure) (visible_cells grid rows)
      (All-weaker (λ x. x.0.row < length rows) (λ x. is_single (limit_along Rows columns) (demand_by Rows grid measure x) ≡ true → x.0.row < length rows) (λ x l t. l) (visible_cells grid rows)
      (All-filter (λ cell. grid.shows cell.0) (λ x. x.0.row < length rows) (positioned_cells rows) (from-above (length rows) 0 rows (omega arith))))

  -- the visible cells stand in their order
  pub AllPairs-visible : (grid : Grid) (rows : List (List C)) → AllPairs Precedes (visible_cells grid rows)
  AllPairs-visible grid rows = AllPairs-filter Precedes (λ cell. grid.shows cell.0) (positioned_cells rows) (from-precede 0 rows)

  module _ (direction : Direction) (grid : Grid) (measure : C → ℕ × ℕ) where
    demand_by-in_order : (xs : List (Position × C)) → AllPairs Precedes xs → StandInOrder (map (demand_by direction grid measure) xs)
    demand_by-in_order [] precede = λ i j d l l'. absurd (omega arith)
    demand_by-in_order (x ∷ xs) precede =
        AllPairs-cons (λ a b. IsBefore (position_of a) (position_of b)) (demand_by direction grid measure x) (map (demand_by direction grid measure) xs)
        (All-map (λ b. IsBefore (position_of (demand_by direction grid measure x)) (position_of b)) (demand_by direction grid measure) xs (λ k d l. precede 0 (suc k) d (omega arith) (omega arith)))
        (demand_by-in_order xs (λ i j d l l'. precede (suc i) (suc j) d (omega arith) (omega arith)))

    pub in_order-demands : (rows : List (List C)) → StandInOrder (demands_of direction grid measure rows)
    in_order-demands rows = demand_by-in_order (visible_cells grid rows) (AllPairs-visible grid rows)

    pub AreDistinct-demands : (rows : List (List C)) → AreDistinct (demands_of direction grid measure rows)
    AreDistinct-demands rows i j d l l' = differ (get_or (demands_of direction grid measure rows) i d) (get_or (demands_of direction grid measure rows) j d) (in_order-demands rows i j d l l')

  -- what a walk kept of rows that records yield is what the table asks for
  pub AreGathered-demands : (direction : Direction) (grid : Grid) (measure : C → ℕ × ℕ) (columns : ℕ) (rows : List (List C)) (kept : Demands) →
      count_along direction columns (length rows) ≤ limit_along direction columns → HoldsDemands (limit_along direction columns) kept (demands_of direction grid measure rows) →
      AreGathered (count_along direction columns (length rows)) kept (demands_of direction grid measure rows)
  AreGathered-demands direction grid measure columns rows kept le held = grind (arith, below-limit)
