use Rattle.papergrid_tracks.proofs.last_cells.write_over.Given as goal
use Rattle.papergrid_tracks.proofs.LastLoops.{WrittenOver}

abbrev pub invariant-loop-i : goal.invariant-loop-i
invariant-loop-i l = WrittenOver l.fn.demand l.fn.last l.last l.i
