use Rattle.papergrid_tables.proofs.BorderHistory.{history_remove_border}
use Rattle.papergrid_tables.proofs.border_table.BorderTable.remove_border.Goals as goal

pub returns : goal.returns
returns g c = rw (← c.self.view_is)
    (history_remove_border c.self.inside.global c.self.inside.frame c.self.inside.horizontal_lines.values.entries c.self.inside.vertical_lines.values.entries c.self.inside.horizontal_edges.values.entries c.self.inside.vertical_edges.values.entries c.self.inside.corners.values.entries _ _ _ c.args.position c.take_border.ensures.horizontal c.take_border.ensures.vertical c.take_border.ensures.corners)
