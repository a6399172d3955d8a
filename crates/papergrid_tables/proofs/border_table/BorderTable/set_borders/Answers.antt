use Rattle.papergrid_tables.proofs.BorderHistory.{history_set_borders}
use Rattle.papergrid_tables.proofs.border_table.BorderTable.set_borders.Goals as goal

pub returns : goal.returns
returns g c = rw (c.replace.ensures.after, ← c.self.view_is) (history_set_borders c.self.inside.global c.self.inside.frame c.self.inside.horizontal_lines.values.entries c.self.inside.vertical_lines.values.entries c.self.inside.horizontal_edges.values.entries c.self.inside.vertical_edges.values.entries c.self.inside.corners.values.entries c.args.borders)
