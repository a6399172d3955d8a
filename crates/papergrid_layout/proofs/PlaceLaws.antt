-- What the laws of places rest on.
use Rattle.std.proofs.Common.{◌≡◌, ◌∙◌, ℕ, zero, suc, ◌+◌, ◌<◌, ◌≤◌, Bool, true, inl, inr, List, [], ◌∷◌, length, get_or, take, drop, sum, refl, sym, ap, arith, map, nat_lt}
use Rattle.std.specs.Prelude.{All, None, Err, ◌^◌, ◌↔◌, ◌≢◌, ◌⊎◌, filter, slice_index}
use Rattle.std.specs.List.{range_with_len}
use Rattle.std.proofs.lemmas.Bool.{cases_Bool, cases_lt, ltb-false}
use Rattle.std.proofs.lemmas.List.{drop_more, take_all}
use Rattle.std.proofs.lemmas.List.Sums.{sum_by-cons}
use Rattle.std.proofs.lemmas.List.Elements.{All-cons, All-head, All-nil, All-tail}
use Rattle.papergrid_values.specs.declared.position.Position.{Position}
use Rattle.papergrid_values.specs.declared.direction.Direction.{Direction}
use Rattle.papergrid_values.specs.declared.direction.Direction.TheVariants.{Columns, Rows}
use Rattle.papergrid_values.specs.Positions.{along}
use Rattle.papergrid_tracks.specs.declared.demand.Demand.{Demand}
use Rattle.papergrid_tracks.specs.Sizings.{IsTotal, AreSizesBy}
use Rattle.papergrid_tracks.specs.Fits.{HasRoom}
use Rattle.papergrid_tracks.specs.Problem.{Problem, total_of}
use Rattle.papergrid_tracks.specs.Ranges.{end_of, first_out, position_of}
use Rattle.papergrid_tracks.proofs.OutLemmas.{if_none}
use Rattle.papergrid_maps.proofs.HiddenLemmas.{position-same}
use Rattle.papergrid_tracks.proofs.LeastLemmas.{exact-least}
use Rattle.papergrid_walk.specs.Cells.{demand_by, positioned_cells, problem_of, side, visible_cells}
use Rattle.papergrid_maps.specs.Grids.{Grid}
use Rattle.papergrid_layout.specs.Answers.{AreBothSizes, HoldAlong}
use Rattle.papergrid_tracks.specs.declared.sizing.Sizing.{Sizing}
use Rattle.papergrid_tracks.specs.declared.sizing.Sizing.TheVariants.{ByShares, Least}
use Rattle.papergrid_layout.specs.Laws.{HaveRoom}
use Rattle.papergrid_layout.specs.Places.{DoNotMeet, HasRoomAtPlace, HaveNoneInCommon, IsInsideTable, IsPlaced, StandsOver, TableView, extent, offset, place_at, sized_table, sum_from, total, total_along}
use Rattle.papergrid_layout.specs.declared.rect.PlaceError.TheVariants.{TooLarge}
use Rattle.papergrid_layout.proofs.TotalLemmas.{room-of}
use Rattle.papergrid_layout.proofs.PlaceSums.{extent-before}

-- ---- apart

-- two ranges with numbers, of which neither ends before the other begins, have a number in common
pub record Meet (s n t m : ℕ) : Type 0 where
  pub number : ℕ
  pub in_one : (s ≤ number) × (number < s + n)
  pub in_other : (t ≤ number) × (number < t + m)

module _ (size : ℕ → ℕ) (line : ℕ → Bool) where
  abbrev IsIn : ℕ → ℕ → ℕ → Type 0
  IsIn s n x = (offset size line s ≤ x) × (x < offset size line s + extent size line s n)

  some_number : (s n x : ℕ) → IsIn s n x → 1 ≤ n
  some_number s zero x h = grind arith
  some_number s (suc n) x h = omega arith

  overlap : (s n t m x : ℕ) → IsIn s n x → IsIn t m x → t < s + n
  overlap s n t m x h k = grind (arith, cases_lt t (s + n), extent-before)

  pub meets : (s n t m x : ℕ) → IsIn s n x → IsIn t m x → Meet s n t m
  meets s n t m x h k =
      let a : t < s + n = overlap s n t m x h k in
      let b : s < t + m = overlap t m s n x k h in
      let one : 1 ≤ n = some_number s n x h in
      let some : 1 ≤ m = some_number t m x k in
      elim (cases_lt s t) [
        | inl l ↦ record { number = t; in_one = ((omega arith), (omega arith)); in_other = ((omega arith), (omega arith)) }
        | inr ge ↦ record { number = s; in_one = ((omega arith), (omega arith)); in_other = ((omega arith), (omega arith)) }
      ]

pub apart : (table : TableView) (p q : Position) → HaveNoneInCommon table.grid p q →
    DoNotMeet (place_at table p) (place_at table q)
apart table p q none x y in_p in_q =
    let across = meets table.widths (table.grid.draws Columns table.shape.1) p.col (table.grid.span Columns p) q.col (table.grid.span Columns q) x
    (in_p.after_left, in_p.before_right) (in_q.after_left, in_q.before_right) in
    let down = meets table.heights (table.grid.draws Rows table.shape.0) p.row (table.grid.span Rows p) q.row (table.grid.span Rows q) y
    (in_p.below_top, in_p.above_bottom) (in_q.below_top, in_q.above_bottom) in
    none (record { row = down.number; col = across.number })
    (record { below_top = down.in_one.0; above_bottom = down.in_one.1; after_left = across.in_one.0; before_right = across.in_one.1 })
    (record { below_top = down.in_other.0; above_bottom = down.in_other.1; after_left = across.in_other.0; before_right = across.in_other.1 })

-- two positions are one, or differ
same-or-other : (p q : Position) → (p ≡ q) ⊎ (p ≢ q)
same-or-other p q = grind (arith, cases_lt p.row q.row, cases_lt q.row p.row, cases_lt p.col q.col, cases_lt q.col p.col, position-same)

pub one-over : (table : TableView) (x y : ℕ) (p : Position) → StandsOver table x y p →
    ((q : Position) → IsInsideTable table q → q ≢ p → HaveNoneInCommon table.grid p q) →
    (q : Position) → StandsOver table x y q → q ≡ p
one-over table x y p over alone q other = elim (same-or-other q p) [
  | inl same ↦ same
  | inr differ ↦ absurd (apart table p q (alone q other.placed.inside differ) x y over.covers other.covers)
]

-- ---- sizes as lists

sum_from-list : (sizes : List ℕ) (s n : ℕ) → s + n ≤ length sizes → sum (take n (drop s sizes)) ≡ sum_from (slice_index sizes) s n
sum_from-list sizes s zero le = refl
sum_from-list sizes s (suc n) le =
    let e : drop s sizes ≡ get_or sizes s 0 ∷ drop (s + 1) sizes = drop_more sizes s 0 (omega arith) in
    let b : sum (take (suc n) (drop s sizes)) ≡ sum (get_or sizes s 0 ∷ take n (drop (s + 1) sizes)) = ap (λ zs. sum (take (suc n) zs)) e in
    let c : sum (get_or sizes s 0 ∷ take n (drop (s + 1) sizes)) ≡ get_or sizes s 0 + sum (take n (drop (s + 1) sizes)) =
    sum_by-cons (λ x. x) (get_or sizes s 0) (take n (drop (s + 1) sizes)) in
    let d : sum_from (slice_index sizes) s (suc n) ≡ slice_index sizes s + sum_from (slice_index sizes) (s + 1) n =
    sum_by-cons (slice_index sizes) s (range_with_len (s + 1) n) in
    let ih : sum (take n (drop (s + 1) sizes)) ≡ sum_from (slice_index sizes) (s + 1) n = sum_from-list sizes (s + 1) n (omega arith) in
    omega arith

-- the total by sizes as a list is that of the problem
total-told : (problem : Problem) (sizes : List ℕ) → length sizes ≡ problem.count →
    total (slice_index sizes) problem.line problem.count ≡ total_of problem sizes
total-told problem sizes many =
    let whole : sum (take (length sizes) (drop 0 sizes)) ≡ sum_from (slice_index sizes) 0 (length sizes) = sum_from-list sizes 0 (length sizes) (omega arith) in
    let all : sum (take (length sizes) (drop 0 sizes)) ≡ sum sizes = ap sum (take_all (length sizes) sizes (omega arith)) in
    let at : sum_from (slice_index sizes) 0 (length sizes) ≡ sum_from (slice_index sizes) 0 problem.count = ap (sum_from (slice_index sizes) 0) many in
    omega arith

fits-told : (problem : Problem) (sizes : List ℕ) → HaveRoom problem sizes → total (slice_index sizes) problem.line problem.count < 2 ^ 64
fits-told problem sizes have = grind (arith, total-told)

-- the sizes are chosen so, and no others
only-sizes : (sizing : Sizing) (problem : Problem) (sizes other : List ℕ) → AreSizesBy sizing problem sizes → AreSizesBy sizing problem other → other ≡ sizes
only-sizes ByShares problem sizes other are is = is.exact ∙ sym are.exact
only-sizes Least problem sizes other are is = exact-least problem other is ∙ sym (exact-least problem sizes are)

total-sizes : (sizing : Sizing) (problem : Problem) (sizes : List ℕ) → AreSizesBy sizing problem sizes → (answer : ℕ) → IsTotal sizing problem answer ↔ (answer ≡ total (slice_index sizes) problem.line problem.count)
total-sizes sizing problem sizes are answer = grind (arith, room-of, only-sizes, total-told)

-- ---- room

-- a range that lies in the table is as long as what it has room for
extent-room : (line : ℕ → Bool) (sizes : List ℕ) (d : Demand) → end_of d ≤ length sizes → HasRoom line sizes d →
    d.minimum ≤ extent (slice_index sizes) line d.start d.span
extent-room line sizes d le room = grind (arith, sum_from-list)

module _ {C : Type 0} (sizing : Sizing) (grid : Grid) (measure : C → ℕ × ℕ) (columns : ℕ) (cells : List (List C)) (widths heights : List ℕ) where
  pub sizes-have-room : AreBothSizes grid measure columns cells sizing widths heights → HoldAlong grid measure columns cells HaveRoom widths heights
  sizes-have-room are = grind (arith, room-of)

  pub totals : AreBothSizes grid measure columns cells sizing widths heights → (direction : Direction) (answer : ℕ) → IsTotal sizing (problem_of grid measure columns cells direction) answer
      ↔ (answer ≡ total_along (sized_table grid widths heights (length cells, columns)) direction)
  totals are Columns answer = total-sizes sizing (problem_of grid measure columns cells Columns) widths are.widths answer
  totals are Rows answer = total-sizes sizing (problem_of grid measure columns cells Rows) heights are.heights answer

module _ {C : Type 0} (grid : Grid) (measure : C → ℕ × ℕ) (columns : ℕ) (cells : List (List C)) (widths heights : List ℕ)
    (have : HoldAlong grid measure columns cells HaveRoom widths heights) where
  abbrev problem : Direction → Problem
  problem = problem_of grid measure columns cells

  abbrev size : Direction → List ℕ
  size Columns = widths
  size Rows = heights

  sized : (direction : Direction) → HaveRoom (problem direction) (size direction)
  sized Columns = have.widths
  sized Rows = have.heights

  pub both-fit : (direction : Direction) → total_along (sized_table grid widths heights (length cells, columns)) direction < 2 ^ 64
  both-fit Columns = fits-told (problem Columns) widths have.widths
  both-fit Rows = fits-told (problem Rows) heights have.heights

  abbrev HasRoomIn : Position × C → Type 0
  HasRoomIn = HasRoomAtPlace (sized_table grid widths heights (length cells, columns)) measure

  -- the cell's range lies in the table, and has room for it
  record IsGood (direction : Direction) (x : Position × C) : Type 0 where
    ends : along direction x.0 + grid.span direction x.0 ≤ (problem direction).count
    room : side direction (measure x.1) + grid.before direction x.0 + grid.after direction x.0
        ≤ extent (slice_index (size direction)) (problem direction).line (along direction x.0) (grid.span direction x.0)

  good : (direction : Direction) (xs : List (Position × C)) → first_out (problem direction).count (map (demand_by direction grid measure) xs) ≡ None →
      All (HasRoom (problem direction).line (size direction)) (map (demand_by direction grid measure) xs) → All (IsGood direction) xs
  good direction [] none room = All-nil (IsGood direction)
  good direction (x ∷ xs) none room =
      let d = demand_by direction grid measure x in
      let ds = map (demand_by direction grid measure) xs in
      let inside = if_none (nat_lt (problem direction).count (end_of d)) (position_of d) (first_out (problem direction).count ds) none in
      let ends : end_of d ≤ (problem direction).count = ltb-false (problem direction).count (end_of d) inside.0 in
      let many : length (size direction) ≡ (problem direction).count = (sized direction).fits.one_each in
      All-cons (IsGood direction) x xs
      (record {
        ends = ends;
        room = extent-room (problem direction).line (size direction) d (omega arith) (All-head (HasRoom (problem direction).line (size direction)) d ds room);
      })
      (good direction xs inside.1 (All-tail (HasRoom (problem direction).line (size direction)) d ds room))

  abbrev IsShown : Position × C → Type 0
  IsShown x = grid.shows x.0 ≡ true

  shown : (xs : List (Position × C)) → All IsShown (filter (λ x. grid.shows x.0) xs)
  shown [] = All-nil IsShown
  shown (x ∷ xs) = grind (arith, cases_Bool (grid.shows x.0), All-cons, shown xs)

  each : (xs : List (Position × C)) → All IsShown xs → All (IsGood Columns) xs → All (IsGood Rows) xs → All HasRoomIn xs
  each [] visible across down = All-nil HasRoomIn
  each (x ∷ xs) visible across down =
      let high = All-head (IsGood Rows) x xs down in
      All-cons HasRoomIn x xs
      (record {
        place = place_at (sized_table grid widths heights (length cells, columns)) x.0;
        is_placed = grind (arith, All-head, both-fit);
        wide_enough = (All-head (IsGood Columns) x xs across).room;
        high_enough = high.room;
      })
      (each xs (All-tail IsShown x xs visible) (All-tail (IsGood Columns) x xs across) (All-tail (IsGood Rows) x xs down))

  pub all-have-room : All HasRoomIn (visible_cells grid cells)
  all-have-room =
      each (visible_cells grid cells) (shown (positioned_cells cells))
      (good Columns (visible_cells grid cells) have.widths.none_out have.widths.fits.room)
      (good Rows (visible_cells grid cells) have.heights.none_out have.heights.fits.room)

  pub never-too-large : (p : Position) → IsPlaced (sized_table grid widths heights (length cells, columns)) p (Err TooLarge) → ⊥
  never-too-large p refused =
      let across = both-fit Columns in
      let down = both-fit Rows in
      elim refused.1 [
        | inl large ↦ omega arith
        | inr large ↦ omega arith
      ]
