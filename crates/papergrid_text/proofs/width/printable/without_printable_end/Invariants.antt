use Rattle.std.proofs.Common.{◌≡◌, ◌≤◌, true, length, drop}
use Rattle.std.specs.Int.{is_in_range}
use Rattle.std.specs.List.{list_all}
use Rattle.papergrid_text.proofs.width.printable.without_printable_end.Given as goal

abbrev pub invariant-bytes : goal.invariant-bytes
invariant-bytes l = (l.end ≤ length l.bytes) × (list_all (is_in_range 0x20 0x7E) (drop l.end l.bytes) ≡ true)

abbrev pub decreases-bytes : goal.decreases-bytes
decreases-bytes l = l.end
