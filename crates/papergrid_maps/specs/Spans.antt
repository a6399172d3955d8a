-- Spans: what the calls decide, what is stored, and what a rectangle hides.
use Rattle.std.specs.Prelude.{◌≡◌, ℕ, ◌+◌, ◌<◌, ◌≤◌, ◌≢◌, ◌&&◌, nat_lt, nat_le, Bool, true, false, if◌then◌else◌, All, List, ◌∷◌, ◌++◌, Option, Some, None, IsSome, unwrap_or}
use Rattle.std.specs.FinMap.{FinMap, get}
use Rattle.papergrid_values.specs.Positions.{along}
use Rattle.papergrid_values.specs.declared.direction.Direction.{Direction}
use Rattle.papergrid_values.specs.declared.direction.Direction.TheVariants.{Columns, Rows}
use Rattle.papergrid_values.specs.declared.position.Position.{Position}
use Rattle.papergrid_values.specs.MapKeys.{position_cmp, position_eq}
use Rattle.papergrid_maps.specs.Anchors.{IsWithin}

-- whether two directions are the same
abbrev pub is_same_direction : Direction → Direction → Bool
is_same_direction Columns Columns = true
is_same_direction Rows Rows = true
is_same_direction a b = false

-- the calls that change spans
pub data SpanCall : Type 0 where
  SetSpan : Direction → Position → ℕ → SpanCall
  RemoveSpans : Direction → SpanCall

-- which call decides the span of a position along a direction, by its index in the list of calls: apart from any search
module _ (d : Direction) (p : Position) where
  -- a call that sets the span of the position along the direction to 1 or more, or removes all spans of the direction
  abbrev pub decides_span : SpanCall → Bool
  decides_span (SetSpan e q n) = is_same_direction e d && (nat_le 1 n && position_eq q p)
  decides_span (RemoveSpans e) = is_same_direction e d

  -- none of the calls does
  abbrev pub NoneDecides : List SpanCall → Type 0
  NoneDecides calls = All (λ call. decides_span call ≡ false) calls

  -- the span that the calls, the oldest first, leave: what the last call that decides it sets it to. It is 1 where that
  -- call removes it, and 1 where none decides it
  pub data IsEffectiveSpan (calls : List SpanCall) : ℕ → Type 0 where
    BySet : (n : ℕ) (before after : List SpanCall) → 1 ≤ n → calls ≡ before ++ SetSpan d p n ∷ after → NoneDecides after → IsEffectiveSpan calls n
    ByRemoval : (before after : List SpanCall) → calls ≡ before ++ RemoveSpans d ∷ after → NoneDecides after → IsEffectiveSpan calls 1
    ByNone : NoneDecides calls → IsEffectiveSpan calls 1

-- the spans stored, by column and by row
pub record Spans : Type 0 where
  pub columns : FinMap position_cmp ℕ
  pub rows : FinMap position_cmp ℕ

-- the spans stored along a direction
abbrev pub spans_along : Direction → Spans → FinMap position_cmp ℕ
spans_along Columns spans = spans.columns
spans_along Rows spans = spans.rows

-- a span is stored where it is 2 or more
abbrev pub from_two : ℕ → Option ℕ
from_two n = if nat_le 2 n then Some n else None

-- a new table that was given the calls holds this
abbrev pub HasSpanHistory : List SpanCall → Spans → Type 0
HasSpanHistory calls spans =
    (d : Direction) (p : Position) (n : ℕ) → IsEffectiveSpan d p calls n → get (spans_along d spans) p ≡ from_two n

-- a span of the direction is stored
abbrev pub HasSpan : FinMap position_cmp ℕ → Type 0
HasSpan spans = (p : Position) × IsSome (get spans p)

-- each span of the direction that is stored ends within so many tracks
abbrev pub EndWithin : Direction → FinMap position_cmp ℕ → ℕ → Type 0
EndWithin direction spans count =
    (p : Position) (n : ℕ) → get spans p ≡ Some n → along direction p + n ≤ count

-- the span of a position, 1 where none is stored
abbrev pub span_at : FinMap position_cmp ℕ → Position → ℕ
span_at spans p = unwrap_or (get spans p) 1

-- how many tracks the cell at a position spans
abbrev pub span_along : Spans → Direction → Position → ℕ
span_along spans d p = span_at (spans_along d spans) p

-- ---- rectangles, by the spans of all positions along both directions

module _ (span : Direction → Position → ℕ) where
  -- the position lies in the rectangle of the anchor, by the spans of the anchor
  abbrev pub IsInRectangle : Position → Position → Type 0
  IsInRectangle anchor p =
      IsWithin (record { position = anchor; rows = span Rows anchor; cols = span Columns anchor }) p

  -- in no rectangle of another anchor
  abbrev pub IsVisible : Position → Type 0
  IsVisible p = (anchor : Position) → anchor ≢ p → IsInRectangle anchor p → ⊥

  -- right of an anchor in its row
  abbrev pub IsCoveredByColumn : Position → Type 0
  IsCoveredByColumn p =
      (anchor : Position) × (anchor.row ≡ p.row) × (anchor.col < p.col)
      × (p.col < anchor.col + span Columns anchor)

  -- below an anchor in its column
  abbrev pub IsCoveredByRow : Position → Type 0
  IsCoveredByRow p =
      (anchor : Position) × (anchor.col ≡ p.col) × (anchor.row < p.row)
      × (p.row < anchor.row + span Rows anchor)

  -- inside the rectangle of an anchor
  abbrev pub IsCoveredByBoth : Position → Type 0
  IsCoveredByBoth p =
      (anchor : Position) × (anchor.row < p.row) × (p.row < anchor.row + span Rows anchor)
      × (anchor.col < p.col) × (p.col < anchor.col + span Columns anchor)

  -- whether the position lies in the anchor's rectangle
  abbrev pub is_in_rectangle : Position → Position → Bool
  is_in_rectangle anchor p =
      nat_le anchor.row p.row && (nat_lt p.row (anchor.row + span Rows anchor)
      && (nat_le anchor.col p.col && nat_lt p.col (anchor.col + span Columns anchor)))
