-- Which span a message names.
use Rattle.std.specs.Prelude.{◌&&◌, ◌+◌, Bool, find, List, nat_eq, nat_le, nat_lt, not, Option, None, Some, option_map, reverse}
use Rattle.papergrid_values.specs.declared.position.Position.{Position}
use Rattle.papergrid_csv.specs.declared.request.Span.{Span}

-- a span is of the cell at a position
abbrev pub is_span_of : Position → Span → Bool
is_span_of p span = nat_eq span.position.row p.row && nat_eq span.position.col p.col

-- a position lies in its rectangle
abbrev pub is_over : Position → Span → Bool
is_over p span = nat_le span.position.row p.row && nat_lt p.row (span.position.row + span.rows)
    && nat_le span.position.col p.col && nat_lt p.col (span.position.col + span.columns)

-- it lies there, and the span is of the cell at another one
abbrev pub is_over_other : Position → Position → Span → Bool
is_over_other p other span = is_over p span && not (is_span_of other span)

-- the last span of the cell at a position
abbrev pub last_span : Position → List Span → Option Span
last_span p spans = find (is_span_of p) (reverse spans)

-- the first span over the cell at a position, of another cell
abbrev pub hiding_span : Position → List Span → Option Span
hiding_span p spans = find (is_over_other p p) spans

-- of a first span over a position: the first one over it of another cell, and that
abbrev pub second_span : Position → List Span → Option Span → Option (Span × Span)
second_span p spans None = None
second_span p spans (Some first) = option_map (λ second. (second, first)) (find (is_over_other p first.position) spans)

-- two spans of different cells over a position: the first one, behind the next of another cell
abbrev pub overlapping_spans : Position → List Span → Option (Span × Span)
overlapping_spans p spans = second_span p spans (find (is_over p) spans)
