use Rattle.papergrid_maps.proofs.SpanHistory.{has_span}
use Rattle.papergrid_maps.proofs.span_index.SpanIndex.holds_any.Goals as goal

pub returns : goal.returns
returns c = rw (← c.self.view_is) (has_span c.self.inside.direction c.self.inside.spans.entries c.is_empty.result c.is_empty.ensures)
