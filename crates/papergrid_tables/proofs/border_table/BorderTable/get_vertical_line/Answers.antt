use Rattle.std.proofs.Common.{◌∙◌, sym}
use Rattle.papergrid_values.proofs.KeyLemmas.{get_at_number}
use Rattle.papergrid_tables.proofs.border_table.BorderTable.get_vertical_line.Goals as goal

pub returns : goal.returns
returns g c = rw (← c.self.view_is) (c.get.ensures.value ∙ sym (get_at_number c.self.inside.vertical_lines.values.entries c.args.col))
