use Rattle.std.proofs.Common.{◌+◌, ◌-◌, min, length, get_or, arith}
use Rattle.std.proofs.lemmas.List.FromFn.{fill_by_all}
use Rattle.papergrid_tracks.specs.TrackBoundaries.{boundaries_of}
use Rattle.papergrid_tracks.proofs.lower.lower_boundaries.Goals as goal

pub returns : goal.returns
returns c =
    fill_by_all (λ i. min (boundaries_of c.args.sizes.now (i + 1)) (get_or c.args.highest_position.now (i + 1) 0) - min (boundaries_of c.args.sizes.now i) (get_or c.args.highest_position.now i 0))
    c.loop-i.sizes (length c.args.sizes.now) 0 c.loop-i.invariant.same_length (λ k l. c.loop-i.invariant.done k (omega arith))
