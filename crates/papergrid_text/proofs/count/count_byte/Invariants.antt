use Rattle.std.proofs.Common.{◌≡◌, ◌-◌, ◌≤◌, count_by, length, take}
use Rattle.std.specs.Prelude.{◌==◌}
use Rattle.papergrid_text.proofs.count.count_byte.Given as goal

abbrev pub invariant-loop-at : goal.invariant-loop-at
invariant-loop-at l = record { within : l.at ≤ length l.bytes; so_far : l.count ≡ count_by (λ b. b == l.byte) (take l.at l.bytes) }

abbrev pub decreases-loop-at : goal.decreases-loop-at
decreases-loop-at l = length l.bytes - l.at
