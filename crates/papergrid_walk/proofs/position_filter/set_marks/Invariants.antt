use Rattle.std.proofs.Common.{◌≡◌, length, take}
use Rattle.std.specs.Prelude.{All}
use Rattle.papergrid_walk.proofs.FilterLemmas.{IsSet}
use Rattle.papergrid_walk.proofs.position_filter.set_marks.Given as goal

abbrev pub invariant-loop-position : goal.invariant-loop-position
invariant-loop-position l = (length l.marks ≡ length l.fn.marks) × All (IsSet l.marks (length l.fn.marks)) (take l.position-index l.positions)
