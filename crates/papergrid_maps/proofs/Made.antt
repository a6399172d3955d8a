-- The spans that calls make: what the calls decide, at each anchor that one of them names.
use Rattle.std.specs.Prelude.{List, [], ◌∷◌, flat_map, reverse}
use Rattle.papergrid_values.specs.declared.position.Position.{Position}
use Rattle.papergrid_values.proofs.Tabulated.{tabulation}
use Rattle.papergrid_values.specs.declared.direction.Direction.TheVariants.{Columns, Rows}
use Rattle.papergrid_maps.specs.Spans.{SetSpan, SpanCall, Spans, from_two}
use Rattle.papergrid_maps.proofs.SpanSearch.{effective_span}

-- the position whose span a call sets
abbrev pub named_anchors : SpanCall → List Position
named_anchors (SetSpan d anchor n) = anchor ∷ []
named_anchors call = []

-- the spans that calls make
abbrev pub spans_made : List SpanCall → Spans
spans_made calls =
    let anchors = flat_map named_anchors (reverse calls) in
    record {
      columns = tabulation (λ p. from_two (effective_span Columns p calls)) anchors;
      rows = tabulation (λ p. from_two (effective_span Rows p calls)) anchors;
    }
