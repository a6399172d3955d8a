use Rattle.papergrid_tables.proofs.OverrideHistory.{is_clear}
use Rattle.papergrid_tables.proofs.offset_table.OffsetTable.is_empty.Goals as goal

pub returns : goal.returns
returns g c = rw (← c.self.view_is) (is_clear c.self.inside.overrides.entries _ c.self.invariant c.is_empty.ensures)
