use Rattle.std.proofs.Common.{arith}
use Rattle.papergrid_tracks.proofs.LoopLemmas.{Distributes, Distributes-all, share-le}
use Rattle.papergrid_tracks.proofs.growing_cells.distribute.Goals as goal

pub overflow_add-sizes : goal.overflow_add-sizes
overflow_add-sizes c = grind (arith, share-le)

pub returns : goal.returns
returns c = grind (arith, Distributes-all, Distributes)
