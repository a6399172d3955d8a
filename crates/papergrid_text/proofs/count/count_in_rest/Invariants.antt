use Rattle.std.proofs.Common.{◌≡◌, count_by, take}
use Rattle.std.specs.Prelude.{◌==◌}
use Rattle.papergrid_text.proofs.count.count_in_rest.Given as goal

abbrev pub invariant-loop-b : goal.invariant-loop-b
invariant-loop-b l = l.count ≡ count_by (λ b. b == l.byte) (take l.b-index l.bytes)
