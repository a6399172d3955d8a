use Rattle.papergrid_values.specs.declared.direction.Direction.TheVariants.{Columns}
use Rattle.papergrid_values.specs.declared.horizontal_line.HorizontalLine.{HorizontalLine}
use Rattle.papergrid_tables.proofs.CountedFound.{set_counted}
use Rattle.papergrid_tables.proofs.border_table.BorderTable.is_vertical_set.Goals as goal

pub returns : goal.returns
returns g c =
    let table = c.self.inside in
    rw (← c.self.view_is) (set_counted Columns c.args.col c.args.count (λ (l : HorizontalLine g.row.T.Denot). l.left) (λ (l : HorizontalLine g.row.T.Denot). l.right) table.horizontal_lines table.vertical_lines.values table.vertical_edges.values table.vertical_edges.on_lines table.corners.values table.corners.in_columns _
    c.self.invariant.ends_of_horizontal c.self.invariant.columns_of_edges c.self.invariant.lines_of_corners.1 c.is_set_at.ensures)
