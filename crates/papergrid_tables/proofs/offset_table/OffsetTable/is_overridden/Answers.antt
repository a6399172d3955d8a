use Rattle.papergrid_tables.proofs.OverrideHistory.{overridden}
use Rattle.papergrid_tables.proofs.offset_table.OffsetTable.is_overridden.Goals as goal

pub returns : goal.returns
returns g c = rw (← c.self.view_is) (overridden c.self.inside.overrides.entries c.args.position _ c.self.invariant c.contains_key.ensures)
