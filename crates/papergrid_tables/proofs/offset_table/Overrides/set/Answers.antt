use Rattle.std.proofs.Common.{arith}
use Rattle.papergrid_values.proofs.ResultLemmas.{on_ok_map}
use Rattle.papergrid_tables.proofs.OverrideHistory.{set_end, set_start}
use Rattle.papergrid_tables.proofs.offset_table.Overrides.set.Goals as goal

pub returns-in-Start-clause-ok : goal.returns-in-Start-clause-ok
returns-in-Start-clause-ok g c = grind (arith, on_ok_map, set_start)

pub returns-in-End-clause-ok : goal.returns-in-End-clause-ok
returns-in-End-clause-ok g c = grind (arith, on_ok_map, set_end)
