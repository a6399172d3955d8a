use Rattle.std.proofs.Common.{arith}
use Rattle.papergrid_maps.proofs.BothStored.{none_beside}
use Rattle.papergrid_maps.proofs.SpanHistory.{none_from_two, history_remove_rows}
use Rattle.papergrid_maps.proofs.span_table.SpanTable.remove_rows.Goals as goal

pub invariant_of-self : goal.invariant_of-self
invariant_of-self c = grind (arith, none_from_two, none_beside)

pub returns-clause-told : goal.returns-clause-told
returns-clause-told c = rw (c.clear.ensures, ← c.self.view_is) (history_remove_rows c.self.inside.columns.spans c.self.inside.rows.spans)
