use Rattle.std.proofs.Common.{take}
use Rattle.std.specs.Prelude.{All}
use Rattle.papergrid_tracks.specs.ForProofs.Checks.{AreDisjointAt}
use Rattle.papergrid_tracks.proofs.disjoint.is_disjoint.Given as goal

abbrev pub invariant-loop-other : goal.invariant-loop-other
invariant-loop-other g l = All (AreDisjointAt l.direction (g.A.Axis.span_of l.axis) l.position) (take l.other-index l.others)
