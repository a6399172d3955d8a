-- When two maps, and two tables of spans, hold the same.
use Rattle.std.specs.Prelude.{◌≡◌, Bool, true}
use Rattle.std.specs.FinMap.{get}
use Rattle.std.specs.Option.{option_eq}
use Rattle.papergrid_values.specs.declared.direction.Direction.{Direction}
use Rattle.papergrid_values.specs.declared.entity.Entity.{Entity}
use Rattle.papergrid_values.specs.declared.position.Position.{Position}
use Rattle.papergrid_maps.specs.StoredMap.{Stored, held_for}
use Rattle.papergrid_maps.specs.Spans.{Spans, spans_along}

-- for each entity both hold equal values, or neither holds one
abbrev pub HoldTheSameValues : {T : Type 0} → (T → T → Bool) → Stored T → Stored T → Type 0
HoldTheSameValues eq m n = (entity : Entity) → option_eq eq (held_for m entity) (held_for n entity) ≡ true

-- each position has the same column span, and the same row span, or none on either side
abbrev pub HoldTheSameSpans : Spans → Spans → Type 0
HoldTheSameSpans s t = (d : Direction) (p : Position) → get (spans_along d s) p ≡ get (spans_along d t) p
