use Rattle.std.proofs.Common.{◌≡◌, ◌≤◌, ◌*◌, sum, take}
use Rattle.papergrid_tracks.proofs.checked.wide_sum.Given as goal

abbrev pub invariant-loop-size : goal.invariant-loop-size
invariant-loop-size l = (l.total ≡ sum (take l.size-index l.sizes)) × (l.total ≤ 18446744073709551615 * l.size-index)
