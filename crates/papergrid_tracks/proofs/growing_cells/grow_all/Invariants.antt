use Rattle.std.proofs.Common.{◌≡◌, ◌++◌, fold, take, drop}
use Rattle.papergrid_tracks.specs.ForProofs.Settled.{line_at}
use Rattle.papergrid_tracks.specs.Sizes.{grown_sizes}
use Rattle.papergrid_tracks.specs.Certificates.{growing_demands}
use Rattle.papergrid_tracks.proofs.growing_cells.grow_all.Given as goal

abbrev pub invariant-loop-demand : goal.invariant-loop-demand
invariant-loop-demand l =
    (l.sizes ≡ fold (grown_sizes (line_at l.lines)) l.fn.sizes (take l.demand-index l.cells))
    × (l.growing_cells.items ++ growing_demands (line_at l.lines) l.sizes (drop l.demand-index l.cells) ≡ growing_demands (line_at l.lines) l.fn.sizes l.cells)
