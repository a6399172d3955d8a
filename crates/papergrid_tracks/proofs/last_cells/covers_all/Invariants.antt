use Rattle.papergrid_tracks.proofs.last_cells.covers_all.Given as goal
use Rattle.papergrid_tracks.proofs.LastLoops.{AreUnder}

abbrev pub invariant-loop-i : goal.invariant-loop-i
invariant-loop-i l = AreUnder l.fn.demand l.last l.i
