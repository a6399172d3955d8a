use Rattle.std.proofs.Common.{arith}
use Rattle.papergrid_values.proofs.KeyLemmas.{get_at_number}
use Rattle.papergrid_tables.proofs.border_table.BorderTable.get_horizontal_lines.Goals as goal

pub returns : goal.returns
returns g c = grind (arith, get_at_number)
