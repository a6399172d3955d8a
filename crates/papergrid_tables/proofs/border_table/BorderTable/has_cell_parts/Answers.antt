use Rattle.std.proofs.Common.{arith}
use Rattle.papergrid_tables.proofs.BorderFound.{without_cells}
use Rattle.papergrid_tables.proofs.border_table.BorderTable.has_cell_parts.Goals as goal

pub returns : goal.returns
returns g c = grind (arith, without_cells)
