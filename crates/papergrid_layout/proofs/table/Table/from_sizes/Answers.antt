use Rattle.std.proofs.Common.{refl}
use Rattle.papergrid_layout.specs.Tables.{view_of}
use Rattle.papergrid_layout.specs.ForProofs.Placing.{AreMarked}
use Rattle.papergrid_layout.proofs.TableLemmas.{both-fit}
use Rattle.papergrid_layout.proofs.table.Table.from_sizes.Goals as goal

pub spanning_cells-requires : goal.spanning_cells-requires
spanning_cells-requires c =
    let table = view_of (record { config = c.args.config.now; widths = c.args.widths.items; heights = c.args.heights.items }) in
    let wide = c.in_ok-width.ensures in
    let high = c.in_ok-height.ensures in
    (table, refl, record { wide = wide.2; high = high.2 }, both-fit table wide.0 high.0)

pub invariant_of-result : goal.invariant_of-result
invariant_of-result c =
    let table = view_of (record { config = c.args.config.now; widths = c.args.widths.items; heights = c.args.heights.items }) in
    let wide = c.in_ok-width.ensures in
    let high = c.in_ok-height.ensures in
    let marked : AreMarked table c.in_ok-width.wide c.in_ok-height.high = record { wide = wide.2; high = high.2 } in
    let fit = both-fit table wide.0 high.0 in
    record { fit = fit; wide = wide.1; high = high.1; marked = marked; spanning = c.in_ok-spanning.ensures table refl marked fit }

pub returns : goal.returns
returns c =
    let table = view_of (record { config = c.args.config.now; widths = c.args.widths.items; heights = c.args.heights.items }) in
    (refl, both-fit table c.in_ok-width.ensures.0 c.in_ok-height.ensures.0)
