use Rattle.papergrid_tables.proofs.OverrideHistory.{kept_removed, history_remove}
use Rattle.papergrid_tables.proofs.offset_table.OffsetTable.remove.Goals as goal

pub invariant_of-self : goal.invariant_of-self
invariant_of-self g c = kept_removed c.self.inside.overrides.entries _ c.args.position c.self.invariant c.remove.ensures.0

pub returns : goal.returns
returns g c = rw (← c.self.view_is) (history_remove c.self.inside.overrides.entries _ c.args.position c.remove.ensures.0)
