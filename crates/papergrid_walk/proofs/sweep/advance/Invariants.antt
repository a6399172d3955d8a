use Rattle.std.proofs.Common.{length, ◌-◌, ◌≤◌}
use Rattle.papergrid_walk.specs.ForProofs.MaxTree.{HasLevels}
use Rattle.papergrid_walk.specs.ForProofs.Swept.{AllBefore, HoldsEnds}
use Rattle.papergrid_walk.proofs.sweep.advance.Given as goal

abbrev pub invariant-loop-next : goal.invariant-loop-next
invariant-loop-next l = HasLevels l.max_tree l.columns × (l.next ≤ length l.anchors) × HoldsEnds l.max_tree l.columns l.anchors l.next × AllBefore l.anchors l.next l.position

abbrev pub decreases-loop-next : goal.decreases-loop-next
decreases-loop-next l = length l.anchors - l.next
