use Rattle.std.proofs.Common.{sym}
use Rattle.papergrid_values.specs.declared.direction.Direction.TheVariants.{Columns, Rows}
use Rattle.papergrid_config.specs.Grids.{spanned_grid}
use Rattle.papergrid_layout.specs.Places.{table_by}
use Rattle.papergrid_layout.proofs.PlaceSums.{has-place, within-total}
use Rattle.papergrid_layout.proofs.cell_rect.place.Goals as goal

pub returns-in-Some-Some-clause-within : goal.returns-in-Some-Some-clause-within
returns-in-Some-Some-clause-within g c =
    let grid = spanned_grid c.args.config.now in
    let across = c.in-Some-Some.ensures in
    let down = c.in-Some-Some.ensures' in
    let inside = c.if-overflows.ensures in
    let over = c.if-overflows-2.ensures in (
      within-total (g.D.Dimension.width_of c.args.dimension.now) (grid.draws Columns c.args.shape.1) c.args.position.col (grid.span Columns c.args.position) c.args.shape.1
          c.in-Some-Some.left c.in-Some-Some.width across.1 inside,
      within-total (g.D.Dimension.height_of c.args.dimension.now) (grid.draws Rows c.args.shape.0) c.args.position.row (grid.span Rows c.args.position) c.args.shape.0
          c.in-Some-Some.top c.in-Some-Some.height down.1 over,
    )

pub returns-in-Some-Some-clause-exact : goal.returns-in-Some-Some-clause-exact
returns-in-Some-Some-clause-exact g c =
    has-place (table_by c.args.config.now (g.D.Dimension.width_of c.args.dimension.now) (g.D.Dimension.height_of c.args.dimension.now) c.args.shape) c.args.position
    c.in-Some-Some.left c.in-Some-Some.top c.in-Some-Some.width c.in-Some-Some.height
    (sym c.if-not-is_visible.ensures) c.if-overflows.ensures c.if-overflows-2.ensures
    c.in-Some-Some.ensures c.in-Some-Some.ensures'
