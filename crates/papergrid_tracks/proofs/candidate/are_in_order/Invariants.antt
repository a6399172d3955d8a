use Rattle.std.proofs.Common.{ℕ, ◌<◌, ◌≤◌, get_or}
use Rattle.papergrid_values.specs.declared.position.Position.{Position}
use Rattle.papergrid_tracks.specs.ForProofs.Checks.{AreInOrder}
use Rattle.papergrid_tracks.proofs.candidate.are_in_order.Given as goal

abbrev pub invariant-loop-i : goal.invariant-loop-i
invariant-loop-i g l = (1 ≤ l.i) × ((j k : ℕ) (p : Position) → j < k → k < l.i → AreInOrder l.direction (g.A.Axis.span_of l.axis) (get_or l.positions j p) (get_or l.positions k p))
