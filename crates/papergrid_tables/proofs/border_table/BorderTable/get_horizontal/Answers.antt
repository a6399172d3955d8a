use Rattle.std.proofs.Common.{arith}
use Rattle.papergrid_values.proofs.KeyLemmas.{get_at_number, get_at_position}
use Rattle.papergrid_tables.proofs.border_table.BorderTable.get_horizontal.Goals as goal

pub returns : goal.returns
returns g c = grind (arith, get_at_position, get_at_number)
