use Rattle.papergrid_tables.proofs.BorderHistory.{history_insert_horizontal_line}
use Rattle.papergrid_values.proofs.ResultLemmas.{on_ok_map}
use Rattle.papergrid_tables.proofs.border_table.BorderTable.insert_horizontal_line.Goals as goal

pub returns-clause-ok : goal.returns-clause-ok
returns-clause-ok g c = rw (← c.self.view_is) (on_ok_map c.put.result (λ updates. history_insert_horizontal_line c.self.inside.global c.self.inside.frame c.self.inside.horizontal_lines.values.entries c.self.inside.vertical_lines.values.entries c.self.inside.horizontal_edges.values.entries c.self.inside.vertical_edges.values.entries c.self.inside.corners.values.entries _ c.args.row c.args.line updates.0) c.put.ensures.ok)
