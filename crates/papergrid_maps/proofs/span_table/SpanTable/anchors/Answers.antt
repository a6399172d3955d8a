use Rattle.papergrid_maps.proofs.SpanHidden.{spans_from_one}
use Rattle.papergrid_maps.proofs.span_table.SpanTable.anchors.Goals as goal

pub returns-clause-from_one : goal.returns-clause-from_one
returns-clause-from_one c = rw (← c.self.view_is) (spans_from_one _ c.self.invariant.2 c.self.invariant.3)
