use Rattle.std.proofs.Common.{◌≡◌, map}
use Rattle.std.specs.List.{range_with_len}
use Rattle.papergrid_layout.specs.Places.{size_along}
use Rattle.papergrid.proofs.sized.track_sizes.Given as goal

abbrev pub invariant-loop-track : goal.invariant-loop-track
invariant-loop-track g l = l.sizes.items ≡ map (size_along (g.D.Dimension.width_of l.dimension) (g.D.Dimension.height_of l.dimension) l.fn.direction) (range_with_len 0 l.track)
