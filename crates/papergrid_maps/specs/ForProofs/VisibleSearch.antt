-- The search for an anchor that hides a position.
use Rattle.std.specs.Prelude.{ℕ, Bool, ◌&&◌, ◌++◌, List, not}
use Rattle.std.specs.FinMap.{keys}
use Rattle.std.specs.List.{list_any}
use Rattle.papergrid_values.specs.declared.direction.Direction.{Direction}
use Rattle.papergrid_values.specs.declared.position.Position.{Position}
use Rattle.papergrid_values.specs.MapKeys.{position_eq}
use Rattle.papergrid_maps.specs.Spans.{Spans, is_in_rectangle, span_along}

-- whether one of these anchors, if it is another position, hides this one
abbrev pub is_hidden_by : (Direction → Position → ℕ) → List Position → Position → Bool
is_hidden_by span anchors p = list_any (λ anchor. not (position_eq anchor p) && is_in_rectangle span anchor p) anchors

-- whether none does: only where a span is stored can another position hide it
abbrev pub is_seen : Spans → Position → Bool
is_seen spans p = not (is_hidden_by (span_along spans) (keys spans.columns ++ keys spans.rows) p)
