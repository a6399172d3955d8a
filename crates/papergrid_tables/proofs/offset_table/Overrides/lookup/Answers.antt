use Rattle.std.proofs.Common.{arith}
use Rattle.papergrid_tables.proofs.BorderFound.{both}
use Rattle.papergrid_values.proofs.KeyLemmas.{get_at_number}
use Rattle.papergrid_tables.proofs.offset_table.Overrides.lookup.Goals as goal

pub returns : goal.returns
returns g c = grind (arith, both, get_at_number)
