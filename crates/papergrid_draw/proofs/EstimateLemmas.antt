-- In widths that fit what visible cells ask for, their texts have room.
use Rattle.std.proofs.Common.{◌≡◌, ◌⊎◌, ◌∙◌, inl, inr, ap, sym, refl, subst, ℕ, zero, suc, ◌+◌, ◌<◌, ◌≤◌, Bool, true, false, cond, List, [], ◌∷◌, length, get_or, take, drop, map, sum, arith}
use Rattle.std.specs.Prelude.{All, filter, slice_index, slice_index_or}
use Rattle.std.specs.List.{range_with_len}
use Rattle.std.proofs.lemmas.Bool.{cases_lt, false≢true}
use Rattle.std.proofs.lemmas.List.{drop_all, drop_more, get_or_default, get_or_past}
use Rattle.std.proofs.lemmas.List.Elements.{All-cons, All-contains, All-head, All-nil, All-tail}
use Rattle.std.proofs.lemmas.List.Sums.{sum_by-cons}
use Rattle.papergrid_values.specs.declared.direction.Direction.TheVariants.{Columns}
use Rattle.papergrid_values.specs.declared.position.Position.{Position}
use Rattle.papergrid_text.specs.Text.{greatest_width, split_lines, width_of, with_width}
use Rattle.papergrid_text.proofs.TrimLemmas.{trimmed-no_wider}
use Rattle.papergrid_maps.specs.Grids.{Grid}
use Rattle.papergrid_config.specs.Grids.{spanned_grid}
use Rattle.papergrid_tracks.specs.declared.demand.Demand.{Demand}
use Rattle.papergrid_tracks.specs.Fits as tracks
use Rattle.papergrid_tracks.specs.Fits.{Fits, range_sum}
use Rattle.papergrid_tracks.specs.Ranges.{inner_lines}
use Rattle.papergrid_walk.specs.Cells.{demand_by, positioned_cells, problem_of, side}
use Rattle.papergrid_walk.specs.Measures.{line_measure}
use Rattle.papergrid_layout.specs.Laws.{IsCellAt}
use Rattle.papergrid_layout.specs.Places.{IsVisibleCell, extent, length_along, sum_from, track_line}
use Rattle.papergrid_layout.proofs.PlaceLemmas.{has-placed}
use Rattle.papergrid_draw.specs.Contents.{FitsPlace, block_at, block_width, shown_lines}
use Rattle.papergrid_draw.specs.Drawings.{Drawing, layout_of}
use Rattle.papergrid_draw.specs.Faults.{AllHaveRoom}
use Rattle.papergrid_draw.specs.Laws.{AreLinesAt, AreMeasuredAt, AreNoWider}

-- ---- lines

abbrev IsNoWider : ℕ → List ℕ × ℕ → Type 0
IsNoWider width line = (width_of line.0 ≤ line.1) × (line.1 ≤ width)

shown-none : (trims : Bool) → shown_lines trims [] ≡ []
shown-none true = refl
shown-none false = refl

-- as they are shown, lines are no wider either
shown-within : (trims : Bool) (width : ℕ) (lines : List (List ℕ × ℕ)) → AreNoWider width lines → block_width trims lines ≤ width
shown-within trims width [] within = omega arith
shown-within true width (line ∷ lines) within =
    let one = All-head (IsNoWider width) line lines within in
    let rest = shown-within true width lines (All-tail (IsNoWider width) line lines within) in
    let trimmed = trimmed-no_wider line.0 in
    let own : width_of line.0 ≤ line.1 = one.0 in
    let measured : line.1 ≤ width = one.1 in
    omega arith
shown-within false width (line ∷ lines) within =
    let measured : line.1 ≤ width = (All-head (IsNoWider width) line lines within).1 in
    let rest = shown-within false width lines (All-tail (IsNoWider width) line lines within) in
    omega arith

-- no line is wider than the widest
none-wider : (parts : List (List ℕ)) (width : ℕ) → greatest_width parts ≤ width → AreNoWider width (map with_width parts)
none-wider [] width le = All-nil (IsNoWider width)
none-wider (part ∷ parts) width le =
    All-cons (IsNoWider width) (with_width part) (map with_width parts) (omega arith, omega arith) (none-wider parts width (omega arith))

-- ---- sizes as lists

range-told : (sizes : List ℕ) (s n : ℕ) → sum (take n (drop s sizes)) ≡ sum_from (slice_index sizes) s n
range-told sizes s zero = refl
range-told sizes s (suc n) =
    let rest : sum (take n (drop (s + 1) sizes)) ≡ sum_from (slice_index sizes) (s + 1) n = range-told sizes (s + 1) n in
    let next : sum_from (slice_index sizes) s (suc n) ≡ slice_index sizes s + sum_from (slice_index sizes) (s + 1) n =
    sum_by-cons (slice_index sizes) s (range_with_len (s + 1) n) in
    elim (cases_lt s (length sizes)) [
      | inl inside ↦
          (let first : sum (take (suc n) (drop s sizes)) ≡ sum (get_or sizes s 0 ∷ take n (drop (s + 1) sizes)) =
          ap (λ l. sum (take (suc n) l)) (drop_more sizes s 0 inside) in
          let parts : sum (get_or sizes s 0 ∷ take n (drop (s + 1) sizes)) ≡ get_or sizes s 0 + sum (take n (drop (s + 1) sizes)) =
          sum_by-cons (λ x. x) (get_or sizes s 0) (take n (drop (s + 1) sizes)) in
          omega arith)
      | inr past ↦
          (let none : sum (take (suc n) (drop s sizes)) ≡ 0 = ap (λ l. sum (take (suc n) l)) (drop_all s sizes past) in
          let later : drop (s + 1) sizes ≡ [] = drop_all (s + 1) sizes (omega arith) in
          let empty : sum (take n (drop (s + 1) sizes)) ≡ 0 = ap (λ l. sum (take n l)) later ∙ none-taken n in
          let size : slice_index sizes s ≡ 0 = get_or_past sizes s 0 past in
          omega arith)
    ]
  where
    none-taken : (n : ℕ) → sum (take n []) ≡ 0
    none-taken zero = refl
    none-taken (suc n) = refl

-- ---- the cells of rows

module _ {C : Type 0} where
  -- the rows have a cell there, or none
  pub cell-or-none : (rows : List (List C)) (p : Position) → ((cell : C) × IsCellAt rows p cell) ⊎ ((cell : C) → IsCellAt rows p cell → ⊥)
  cell-or-none rows p = elim (cases_lt p.row (length rows)) [
    | inl below ↦ in-row (slice_index_or rows p.row []) refl below
    | inr past ↦ inr (λ cell is. omega (arith, past, is.0))
  ]
    where
      in-row : (row : List C) → row ≡ slice_index_or rows p.row [] → p.row < length rows →
          ((cell : C) × IsCellAt rows p cell) ⊎ ((cell : C) → IsCellAt rows p cell → ⊥)
      in-row [] same below = inr (λ cell is. let e = ap length same in omega (arith, e, is.1.0))
      in-row (x ∷ row) same below = elim (cases_lt p.col (length (x ∷ row))) [
        | inl inside ↦
            (let cell = get_or (x ∷ row) p.col x in
            inl (
              cell,
              (
                below,
                subst (λ l. (p.col < length l) × (slice_index_or l p.col cell ≡ cell)) same
                    (inside, get_or_default (x ∷ row) p.col cell x inside),
              ),
            ))
        | inr past ↦ inr (λ cell is. let e = ap length same in omega (arith, e, past, is.1.0))
      ]

  module _ (grid : Grid) (measure : C → ℕ × ℕ) (line : ℕ → Bool) (sizes : List ℕ) where
    abbrev HasRoomIfShown : Position × C → Type 0
    HasRoomIfShown x = grid.shows x.0 ≡ true → tracks.HasRoom line sizes (demand_by Columns grid measure x)

    -- each visible one of some cells has room
    room-shown : (xs : List (Position × C)) →
        All (tracks.HasRoom line sizes) (map (demand_by Columns grid measure) (filter (λ x. grid.shows x.0) xs)) → All HasRoomIfShown xs
    room-shown [] all = All-nil HasRoomIfShown
    room-shown (x ∷ xs) all =
        let asked = map (demand_by Columns grid measure) (filter (λ y. grid.shows y.0) xs) in
        elim (grid.shows x.0) as (λ b. grid.shows x.0 ≡ b →
        All (tracks.HasRoom line sizes) (map (demand_by Columns grid measure) (cond b (x ∷ filter (λ y. grid.shows y.0) xs) (filter (λ y. grid.shows y.0) xs))) →
        All HasRoomIfShown (x ∷ xs)) [
          | true ↦ λ shown both.
              All-cons HasRoomIfShown x xs
              (λ _. All-head (tracks.HasRoom line sizes) (demand_by Columns grid measure x) asked both)
              (room-shown xs (All-tail (tracks.HasRoom line sizes) (demand_by Columns grid measure x) asked both))
          | false ↦ λ hidden rest.
              All-cons HasRoomIfShown x xs (λ shown. absurd (false≢true (sym hidden ∙ shown))) (room-shown xs rest)
        ] refl all

  -- ---- a drawing

  module _ (d : Drawing) (measure : C → ℕ × ℕ) (rows : List (List C)) (widths : List ℕ) (same : d.widths ≡ slice_index widths)
      (fits : Fits (problem_of (spanned_grid d.config) measure d.shape.1 rows Columns) widths) where
    abbrev asked_by : Position × C → Demand
    asked_by = demand_by Columns (spanned_grid d.config) measure

    -- what a visible cell asks for is no more than it has
    asked-within : (p : Position) (cell : C) → IsVisibleCell (layout_of d) p → IsCellAt rows p cell →
        (asked_by (p, cell)).minimum ≤ length_along (layout_of d) Columns p
    asked-within p cell is at =
        let demand : Demand = asked_by (p, cell) in
        let line : ℕ → Bool = track_line (layout_of d) Columns in
        let room : demand.minimum ≤ range_sum widths demand + inner_lines line demand =
        All-contains (HasRoomIfShown (spanned_grid d.config) measure line widths) (positioned_cells rows) (p, cell)
        (room-shown (spanned_grid d.config) measure line widths (positioned_cells rows) fits.room) (has-placed rows p cell at) is.visible in
        let told : range_sum widths demand ≡ sum_from (slice_index widths) demand.start demand.span = range-told widths demand.start demand.span in
        let long : length_along (layout_of d) Columns p ≡ extent (slice_index widths) line demand.start demand.span =
        ap (λ size. extent size line demand.start demand.span) same in
        omega arith

    room-at : (p : Position) → IsVisibleCell (layout_of d) p → AreMeasuredAt measure rows p (d.lines p) → FitsPlace (block_at d p)
    room-at p is lines =
        let look = (block_at d p).look in
        elim (cell-or-none rows p) [
          | inl found ↦
              (let trims : Bool = look.formatting.horizontal_trim in
              let width : ℕ = side Columns (measure found.0) in
              let within : block_width trims (d.lines p) ≤ width = shown-within trims width (d.lines p) (lines.of_cell found.0 found.1) in
              let asked : width + look.padding.left.size + look.padding.right.size ≤ length_along (layout_of d) Columns p =
              asked-within p found.0 is found.1 in
              inr (omega arith))
          | inr none ↦
              (let trims : Bool = look.formatting.vertical_trim in
              inl (ap (shown_lines trims) (lines.of_none none) ∙ shown-none trims))
        ]

    pub measured-leave-room : ((p : Position) → IsVisibleCell (layout_of d) p → AreMeasuredAt measure rows p (d.lines p)) → AllHaveRoom d
    measured-leave-room lines = λ p none. none.lacks (room-at p none.is_cell (lines p none.is_cell))

  -- the lines of texts are as they are measured
  lines-measured : (text : C → List ℕ) (rows : List (List C)) (p : Position) (lines : List (List ℕ × ℕ)) →
      AreLinesAt text rows p lines → AreMeasuredAt (line_measure text) rows p lines
  lines-measured text rows p lines are = record {
    of_cell = λ cell is.
        let parts : List (List ℕ) = split_lines (text cell) in
        subst (AreNoWider (greatest_width parts)) (sym (are.of_cell cell is)) (none-wider parts (greatest_width parts) (omega arith));
    of_none = are.of_none;
  }

  pub texts-leave-room : (d : Drawing) (text : C → List ℕ) (rows : List (List C)) (widths : List ℕ) → d.widths ≡ slice_index widths →
      Fits (problem_of (spanned_grid d.config) (line_measure text) d.shape.1 rows Columns) widths →
      ((p : Position) → IsVisibleCell (layout_of d) p → AreLinesAt text rows p (d.lines p)) → AllHaveRoom d
  texts-leave-room d text rows widths same fits lines =
      measured-leave-room d (line_measure text) rows widths same fits (λ p cell. lines-measured text rows p (d.lines p) (lines p cell))
