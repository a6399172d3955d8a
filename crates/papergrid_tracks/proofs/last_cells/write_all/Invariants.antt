use Rattle.std.proofs.Common.{◌≡◌, ℕ, ◌<◌, length, get_or, take, None}
use Rattle.papergrid_tracks.specs.ForProofs.LastCells.{last_holding}
use Rattle.papergrid_tracks.proofs.last_cells.write_all.Given as goal

abbrev pub invariant-loop-demand : goal.invariant-loop-demand
invariant-loop-demand l = (k : ℕ) → k < length l.last → get_or l.last k None ≡ last_holding (take l.demand-index l.cells) k
