use Rattle.papergrid_tables.proofs.BorderFound.{bare, unset}
use Rattle.papergrid_tables.proofs.border_table.BorderTable.is_empty.Goals as goal

pub returns : goal.returns
returns g c = rw (← c.self.view_is) (bare c.self.inside.global c.self.inside.frame c.self.inside.horizontal_lines.values.entries c.self.inside.vertical_lines.values.entries c.self.inside.horizontal_edges.values.entries c.self.inside.vertical_edges.values.entries c.self.inside.corners.values.entries _ _ _ _ _ _ _
    (unset c.self.inside.global c.is_none-global.result c.is_none-global.ensures) c.is_empty-frame.ensures c.is_empty-horizontal_lines.ensures c.is_empty-vertical_lines.ensures
    c.is_empty-horizontal_edges.ensures c.is_empty-vertical_edges.ensures c.is_empty-corners.ensures)
