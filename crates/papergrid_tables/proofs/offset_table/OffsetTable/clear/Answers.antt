use Rattle.papergrid_tables.proofs.OverrideHistory.{history_clear}
use Rattle.papergrid_tables.proofs.offset_table.OffsetTable.clear.Goals as goal

pub returns : goal.returns
returns g c = rw (c.clear.ensures.empty, ← c.self.view_is) (history_clear _)
