use Rattle.std.proofs.Common.{arith}
use Rattle.papergrid_values.proofs.EqualLemmas.{numbers_eq-from_entries}
use Rattle.papergrid_tables.proofs.offset_table.OverridesPartialEq.eq.Goals as goal

pub returns : goal.returns
returns g c = grind (arith, numbers_eq-from_entries)
