use Rattle.std.proofs.Common.{◌≡◌, ◌<◌, ◌^◌, take}
use Rattle.std.specs.Prelude.{sum}
use Rattle.papergrid_tracks.proofs.growing_cells.checked_sum.Given as goal

abbrev pub invariant-loop-size : goal.invariant-loop-size
invariant-loop-size l = record {
  added : l.total ≡ sum (take l.size-index l.sizes);
  fits : l.total < 2 ^ 64;
}
