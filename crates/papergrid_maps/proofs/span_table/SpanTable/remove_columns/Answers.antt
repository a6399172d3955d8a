use Rattle.std.proofs.Common.{arith}
use Rattle.papergrid_maps.proofs.BothStored.{none_both}
use Rattle.papergrid_maps.proofs.SpanHistory.{none_from_two, history_remove_columns}
use Rattle.papergrid_maps.proofs.span_table.SpanTable.remove_columns.Goals as goal

pub invariant_of-self : goal.invariant_of-self
invariant_of-self c = grind (arith, none_from_two, none_both)

pub returns-clause-told : goal.returns-clause-told
returns-clause-told c = rw (c.clear.ensures, ← c.self.view_is) (history_remove_columns c.self.inside.columns.spans c.self.inside.rows.spans)
