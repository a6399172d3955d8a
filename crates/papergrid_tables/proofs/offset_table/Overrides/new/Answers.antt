use Rattle.papergrid_tables.proofs.OverrideHistory.{no_offsets}
use Rattle.papergrid_tables.proofs.offset_table.Overrides.new.Goals as goal

pub returns : goal.returns
returns g c = rw (c.new.ensures.empty, c.new-2.ensures.empty) no_offsets
