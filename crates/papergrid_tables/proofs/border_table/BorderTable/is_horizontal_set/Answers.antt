use Rattle.papergrid_values.specs.declared.direction.Direction.TheVariants.{Rows}
use Rattle.papergrid_values.specs.declared.vertical_line.VerticalLine.{VerticalLine}
use Rattle.papergrid_tables.proofs.CountedFound.{set_counted}
use Rattle.papergrid_tables.proofs.border_table.BorderTable.is_horizontal_set.Goals as goal

pub returns : goal.returns
returns g c =
    let table = c.self.inside in
    rw (← c.self.view_is) (set_counted Rows c.args.row c.args.count (λ (l : VerticalLine g.row.T.Denot). l.top) (λ (l : VerticalLine g.row.T.Denot). l.bottom) table.vertical_lines table.horizontal_lines.values table.horizontal_edges.values table.horizontal_edges.on_lines table.corners.values table.corners.in_rows _
    c.self.invariant.ends_of_vertical c.self.invariant.rows_of_edges c.self.invariant.lines_of_corners.0 c.is_set_at.ensures)
