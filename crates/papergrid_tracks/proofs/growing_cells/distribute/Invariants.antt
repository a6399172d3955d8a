use Rattle.papergrid_tracks.proofs.growing_cells.distribute.Given as goal
use Rattle.papergrid_tracks.proofs.LoopLemmas.{Distributes}

abbrev pub invariant-loop-i : goal.invariant-loop-i
invariant-loop-i l = Distributes l.fn.amount l.fn.demand l.fn.sizes l.sizes l.i l.share
