use Rattle.std.proofs.Common.{◌∙◌}
use Rattle.papergrid_tables.proofs.OffsetEqual.{overrides_eq-from_entries}
use Rattle.papergrid_tables.proofs.offset_table.OffsetTablePartialEq.eq.Goals as goal

pub returns : goal.returns
returns g c = rw (← c.self.view_is, ← c.other.view_is) (c.eq.ensures ∙ overrides_eq-from_entries g.T.PartialEq.eq _ _ c.self.invariant c.other.invariant)
