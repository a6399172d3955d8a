-- Whether a position is visible, as a test of the spans that are stored.
use Rattle.std.specs.Prelude.{Bool}
use Rattle.papergrid_values.specs.declared.position.Position.{Position}
use Rattle.papergrid_maps.specs.Spans.{Spans}
use Rattle.papergrid_maps.specs.ForProofs.SpanVisible.{visible_test}

-- true exactly where the position lies in no rectangle of another anchor (`IsVisible`)
abbrev pub is_visible : Spans → Position → Bool
is_visible spans p = (visible_test spans p).0
