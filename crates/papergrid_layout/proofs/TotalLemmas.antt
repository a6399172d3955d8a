-- Sums of sizes with their lines.
use Rattle.std.proofs.Common.{◌≡◌, ℕ, ◌+◌, ◌≤◌, List, [], ◌∷◌, arith, nat_lt, map}
use Rattle.std.specs.Prelude.{All, None, sum}
use Rattle.std.proofs.lemmas.Bool.{ltb-false}
use Rattle.std.proofs.lemmas.List.Elements.{All-cons, All-head, All-nil, All-tail}
use Rattle.papergrid_values.specs.declared.position.Position.{Position}
use Rattle.papergrid_values.specs.declared.direction.Direction.{Direction}
use Rattle.papergrid_tracks.specs.Fits.{Fits, HasRoom}
use Rattle.papergrid_tracks.specs.Problem.{Problem, total_of}
use Rattle.papergrid_values.specs.Lines.{all_lines}
use Rattle.papergrid_tracks.specs.Ranges.{end_of, first_out, position_of}
use Rattle.papergrid_tracks.proofs.LoopLemmas.{minimum_within_total}
use Rattle.papergrid_tracks.proofs.OutLemmas.{if_none}
use Rattle.papergrid_tracks.specs.Sizings.{AreSizesBy, IsTotal}
use Rattle.papergrid_tracks.specs.declared.sizing.Sizing.{Sizing}
use Rattle.papergrid_walk.specs.Cells.{demand_by, problem_of, side, visible_cells}
use Rattle.papergrid_maps.specs.Grids.{Grid}
use Rattle.papergrid_layout.specs.Laws.{HaveRoom}

-- sizes that are chosen so have room
pub room-of : (sizing : Sizing) (problem : Problem) (sizes : List ℕ) → AreSizesBy sizing problem sizes → HaveRoom problem sizes
room-of sizing problem sizes are = record { none_out = are.none_out; fits = are.fits; total = are.total }

-- no visible cell needs more than the total with its lines
module _ {C : Type 0} (grid : Grid) (measure : C → ℕ × ℕ) (columns : ℕ) (cells : List (List C)) (direction : Direction) where
  abbrev problem : Problem
  problem = problem_of grid measure columns cells direction

  abbrev MinimumsAtMost : ℕ → Position × C → Type 0
  MinimumsAtMost total cell = side direction (measure cell.1) + grid.before direction cell.0 + grid.after direction cell.0 ≤ total

  each_within : (sizes : List ℕ) (total : ℕ) → total_of problem sizes ≤ total → (xs : List (Position × C)) →
      first_out problem.count (map (demand_by direction grid measure) xs) ≡ None → All (HasRoom problem.line sizes) (map (demand_by direction grid measure) xs) → All (MinimumsAtMost total) xs
  each_within sizes total le [] none room = All-nil (MinimumsAtMost total)
  each_within sizes total le (x ∷ xs) none room =
      let d = demand_by direction grid measure x in
      let ds = map (demand_by direction grid measure) xs in
      let inside = if_none (nat_lt problem.count (end_of d)) (position_of d) (first_out problem.count ds) none in
      let ends : end_of d ≤ problem.count = ltb-false problem.count (end_of d) inside.0 in
      let minimum : d.minimum ≤ sum sizes + all_lines problem.line problem.count = minimum_within_total problem.line problem.count sizes d ends (All-head (HasRoom problem.line sizes) d ds room) in
      All-cons (MinimumsAtMost total) x xs (omega arith) (each_within sizes total le xs inside.1 (All-tail (HasRoom problem.line sizes) d ds room))

  pub fitting_covers : (sizes : List ℕ) → first_out problem.count problem.demands ≡ None → Fits problem sizes → All (MinimumsAtMost (total_of problem sizes)) (visible_cells grid cells)
  fitting_covers sizes none fits = each_within sizes (total_of problem sizes) (omega arith) (visible_cells grid cells) none fits.room

  pub total_covers : (sizing : Sizing) (total : ℕ) → IsTotal sizing problem total → All (MinimumsAtMost total) (visible_cells grid cells)
  total_covers sizing total is = grind (arith, room-of, fitting_covers)
