use Rattle.std.proofs.Common.{length, take}
use Rattle.papergrid_tracks.proofs.last_cells.are_laminar.Given as goal
use Rattle.papergrid_tracks.proofs.LastLoops.{IsTableOf}

abbrev pub invariant-loop-demand : goal.invariant-loop-demand
invariant-loop-demand l = IsTableOf (length l.fn.last) (take l.demand-index l.cells) l.last
