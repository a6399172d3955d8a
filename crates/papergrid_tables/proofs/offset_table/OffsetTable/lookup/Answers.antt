use Rattle.std.proofs.Common.{arith}
use Rattle.papergrid_values.proofs.KeyLemmas.{get_at_position}
use Rattle.papergrid_tables.proofs.OverrideHistory.{none_found}
use Rattle.papergrid_tables.proofs.offset_table.OffsetTable.lookup.Goals as goal

pub returns-in-Some : goal.returns-in-Some
returns-in-Some g c = grind (arith, get_at_position)

pub returns-in-None : goal.returns-in-None
returns-in-None g c = grind (arith, none_found, get_at_position)
