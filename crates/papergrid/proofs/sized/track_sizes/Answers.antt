use Rattle.std.proofs.Common.{arith, subst}
use Rattle.std.proofs.lemmas.Grind.{common_steps}
use Rattle.std.proofs.lemmas.List.FromFn.{map-range_with_len_more}
use Rattle.papergrid_layout.specs.Tables.{has_along}
use Rattle.papergrid.proofs.sized.track_sizes.Goals as goal

pub get_width-size-requires : goal.get_width-size-requires
get_width-size-requires g c =
    let there = has_along (g.D.Dimension.has_column c.args.dimension.now) (g.D.Dimension.has_row c.args.dimension.now) in
    subst (λ direction. there direction c.loop-track.track) c.in-Columns.is (c.requires c.loop-track.track c.loop-track-test.true)

pub get_height-size-requires : goal.get_height-size-requires
get_height-size-requires g c =
    let there = has_along (g.D.Dimension.has_column c.args.dimension.now) (g.D.Dimension.has_row c.args.dimension.now) in
    subst (λ direction. there direction c.loop-track.track) c.in-Rows.is (c.requires c.loop-track.track c.loop-track-test.true)

pub loop-track-preserved : goal.loop-track-preserved
loop-track-preserved g c = grind (arith, common_steps, map-range_with_len_more)
