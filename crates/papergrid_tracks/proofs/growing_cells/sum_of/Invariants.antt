use Rattle.std.proofs.Common.{◌≡◌, min, sum, take}
use Rattle.papergrid_tracks.proofs.growing_cells.sum_of.Given as goal

abbrev pub invariant-loop-size : goal.invariant-loop-size
invariant-loop-size l = l.total ≡ min (sum (take l.size-index l.sizes)) 18446744073709551615
