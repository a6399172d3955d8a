use Rattle.std.proofs.Common.{◌≡◌, length}
use Rattle.papergrid_csv.specs.Numbers.{after_groups}
use Rattle.papergrid_csv.proofs.number.after_groups.Given as goal

abbrev pub invariant-loop-rest : goal.invariant-loop-rest
invariant-loop-rest l = after_groups l.rest ≡ after_groups l.text

abbrev pub decreases-loop-rest : goal.decreases-loop-rest
decreases-loop-rest l = length l.rest
