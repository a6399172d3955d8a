use Rattle.std.proofs.Common.{ℕ, ◌<◌, get_or}
use Rattle.papergrid_values.specs.declared.position.Position.{Position}
use Rattle.papergrid_tracks.specs.ForProofs.Checks.{AreDisjointAt}
use Rattle.papergrid_tracks.proofs.disjoint.are_all_disjoint.Given as goal

abbrev pub invariant-loop-i : goal.invariant-loop-i
invariant-loop-i g l = (j k : ℕ) (p : Position) → j < k → k < l.i → AreDisjointAt l.direction (g.A.Axis.span_of l.axis) (get_or l.positions j p) (get_or l.positions k p)
