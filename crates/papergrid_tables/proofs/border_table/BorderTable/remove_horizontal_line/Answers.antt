use Rattle.papergrid_tables.proofs.BorderHistory.{history_remove_horizontal_line}
use Rattle.papergrid_tables.proofs.border_table.BorderTable.remove_horizontal_line.Goals as goal

pub returns : goal.returns
returns g c = rw (← c.self.view_is) (history_remove_horizontal_line c.self.inside.global c.self.inside.frame c.self.inside.horizontal_lines.values.entries c.self.inside.vertical_lines.values.entries c.self.inside.horizontal_edges.values.entries c.self.inside.vertical_edges.values.entries c.self.inside.corners.values.entries _ c.args.row c.take.ensures.taken.0)
