-- The search for the span that calls decide, from the newest call back.
use Rattle.std.specs.Prelude.{ℕ, ◌&&◌, nat_le, if◌then◌else◌, List, [], ◌∷◌, reverse}
use Rattle.papergrid_values.specs.declared.direction.Direction.{Direction}
use Rattle.papergrid_values.specs.declared.position.Position.{Position}
use Rattle.papergrid_values.specs.MapKeys.{position_eq}
use Rattle.papergrid_maps.specs.Spans.{RemoveSpans, SetSpan, SpanCall, is_same_direction}

-- the span of a position: the number of the last call for it with 1 or more, or 1
-- where there is none. Only calls since the last removal of all spans of the direction
-- count. The newest call comes first
abbrev pub span_from : Direction → Position → List SpanCall → ℕ
span_from d p [] = 1
span_from d p (RemoveSpans e ∷ older) = if is_same_direction e d then 1 else span_from d p older
span_from d p (SetSpan e q n ∷ older) =
    if is_same_direction e d && (nat_le 1 n && position_eq q p) then n else span_from d p older

-- the effective span of calls for a position, the oldest first
abbrev pub effective_span : Direction → Position → List SpanCall → ℕ
effective_span d p calls = span_from d p (reverse calls)
