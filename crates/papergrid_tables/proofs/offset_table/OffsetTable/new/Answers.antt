use Rattle.papergrid_tables.proofs.OverrideHistory.{new_history}
use Rattle.papergrid_tables.proofs.offset_table.OffsetTable.new.Goals as goal

pub returns : goal.returns
returns g c = rw (c.new.ensures.empty) new_history
