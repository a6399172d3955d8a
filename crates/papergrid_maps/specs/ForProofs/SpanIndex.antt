-- Spans of one direction by the line that they run in, and the anchors with both spans.
use Rattle.std.specs.Prelude.{◌≡◌, ◌↔◌, ◌≤◌, ◌<◌, ◌+◌, ◌-◌, ◌&&◌, All, IsSome, IsTrue, not, nat_lt, List, map, ℕ, Bool, true, false, Option, Some, None, if◌then◌else◌, nat_le, unwrap_or, refl}
use Rattle.std.specs.BTreeMap.{BTreeMap, get as tree_get}
use Rattle.std.specs.Coded.{Coded, code_by, coded×, coded_bool, coded_ℕ}
use Rattle.std.specs.FinMap.{FinMap, code, from_entries, get}
use Rattle.std.specs.List.{Contains, list_any}
use Rattle.std.specs.List.Sorted.{IsStrictlySortedBy}
use Rattle.papergrid_values.specs.Positions.{along}
use Rattle.papergrid_values.specs.declared.direction.Direction.{Direction}
use Rattle.papergrid_values.specs.declared.direction.Direction.TheVariants.{Columns, Rows}
use Rattle.papergrid_values.specs.declared.position.Position.{Position}
use Rattle.papergrid_values.specs.MapKeys.{coded_position, position_cmp, position_eq}
use Rattle.papergrid_maps.specs.Spans.{Spans, from_two, span_at}
use Rattle.papergrid_maps.specs.declared.anchors.Anchor.{Anchor}
use Rattle.papergrid_maps.specs.declared.span_index.Extent.{Extent}

-- the line that a span of the direction runs in: its row for a column span, its column for a row span
abbrev pub line_of : Direction → Position → ℕ
line_of Columns p = p.row
line_of Rows p = p.col

-- the line of a position as a row, and its index in that line as a column
abbrev pub key_of : Direction → Position → Position
key_of direction p = record { row = line_of direction p; col = along direction p }

-- the spans of a direction, by position
pub record DirectedSpans : Type 0 where
  pub direction : Direction
  pub spans : FinMap position_cmp ℕ

-- whether the direction is that of columns
abbrev pub is_columns : Direction → Bool
is_columns Columns = true
is_columns Rows = false

-- the direction for which that is so
abbrev pub direction_by : Bool → Direction
direction_by true = Columns
direction_by false = Rows

pub same_direction : (d : Direction) → direction_by (is_columns d) ≡ d
same_direction Columns = refl
same_direction Rows = refl

-- a code of the spans of a direction
abbrev pub directed_code : Coded DirectedSpans
directed_code =
    code_by (Bool × FinMap position_cmp ℕ) (coded× coded_bool (code coded_position coded_ℕ))
    (λ s. (is_columns s.direction, s.spans)) (λ p. record { direction = direction_by p.0; spans = p.1 })
    (λ s i. record { direction = same_direction s.direction i; spans = s.spans })

-- a code of spans
abbrev pub spans_code : Coded Spans
spans_code =
    code_by (FinMap position_cmp ℕ × FinMap position_cmp ℕ) (coded× (code coded_position coded_ℕ) (code coded_position coded_ℕ))
    (λ s. (s.columns, s.rows)) (λ p. record { columns = p.0; rows = p.1 }) (λ _. refl)

-- the spans of entries by key, each at its position
abbrev pub stored_along : Direction → List (Position × ℕ) → FinMap position_cmp ℕ
stored_along direction es = from_entries (map (λ e. (key_of direction e.0, e.1)) es)

-- a span of the position's line begins before it and reaches it
abbrev pub IsReached : DirectedSpans → Position → Type 0
IsReached index p =
    let direction = index.direction in
    (anchor : Position) × (line_of direction anchor ≡ line_of direction p) × (along direction anchor < along direction p)
    × (along direction p < along direction anchor + span_at index.spans anchor)

-- no span below 2 is stored
abbrev pub AreFromTwo : FinMap position_cmp ℕ → Type 0
AreFromTwo spans = (p : Position) (n : ℕ) → get spans p ≡ Some n → 2 ≤ n

-- what a position has after a call for q: 0 does nothing, 1 removes, and more is stored
abbrev pub span_set : Position → ℕ → Position → Option ℕ → Option ℕ
span_set q n p old = if nat_le 1 n && position_eq q p then from_two n else old

-- ---- both spans

-- the anchor at a position, by the spans that are stored, 1 where none is
abbrev pub anchor_at : (Position → Option ℕ) → (Position → Option ℕ) → Position → Anchor
anchor_at columns rows p = record { position = p; rows = unwrap_or (rows p) 1; cols = unwrap_or (columns p) 1 }

-- the same, by the spans of a direction and those of the other one
abbrev pub anchor_along : Direction → (Position → Option ℕ) → (Position → Option ℕ) → Position → Anchor
anchor_along Columns own others = anchor_at own others
anchor_along Rows own others = anchor_at others own

-- each of these anchors is the one at its position, and they are at the positions that are stored
pub record AreAt (at : Position → Anchor) (IsStored : Position → Type 0) (anchors : List Anchor) : Type 0 where
  pub made : All (λ a. a ≡ at a.position) anchors
  pub has : (p : Position) → Contains anchors (at p) ↔ IsStored p

-- by row and then by column, no two at one position
abbrev pub IsRising : List Anchor → Type 0
IsRising = IsStrictlySortedBy (λ a b. position_cmp a.position b.position)

-- the rectangle by a span of the direction and a span of the other one
abbrev pub extent_of : Direction → ℕ → ℕ → Extent
extent_of Columns span other = record { columns = span; rows = other }
extent_of Rows span other = record { columns = other; rows = span }

-- the anchor of an entry by key, by its span and the span of the other direction
abbrev pub entry_anchor : Direction → FinMap position_cmp ℕ → Position × ℕ → Anchor
entry_anchor direction others e =
    let p = key_of direction e.0 in
    let extent = extent_of direction e.1 (span_at others p) in
    record { position = p; rows = extent.rows; cols = extent.columns }

-- the rectangle, where both spans are stored
abbrev pub extent_stored : Direction → Option ℕ → Option ℕ → Option Extent
extent_stored direction (Some span) (Some other) = Some (extent_of direction span other)
extent_stored direction span other = None

-- the anchors that both directions hold, with both spans, and no others
abbrev pub HoldsBoth : DirectedSpans → FinMap position_cmp ℕ → BTreeMap Position Extent → Type 0
HoldsBoth index others both =
    (p : Position) → tree_get position_cmp both p ≡ extent_stored index.direction (get index.spans p) (get others p)

-- ---- rectangles and many positions

-- in the rectangle of an anchor with so many columns and rows, and not the anchor
abbrev pub covers : Position → ℕ → ℕ → Position → Bool
covers anchor columns rows p =
    not (position_eq anchor p) && (nat_le anchor.row p.row && (nat_lt (p.row - anchor.row) rows
    && (nat_le anchor.col p.col && nat_lt (p.col - anchor.col) columns)))

-- one of the positions lies in the rectangle of an entry by key, by its span and the span of the other direction
abbrev pub covers_stored : Direction → FinMap position_cmp ℕ → List Position → Position × ℕ → Bool
covers_stored direction others positions e =
    let anchor = key_of direction e.0 in
    let extent = extent_of direction e.1 (span_at others anchor) in
    list_any (covers anchor extent.columns extent.rows) positions

-- one of the positions lies in the rectangle of an anchor with a span of the direction
abbrev pub CoversOne : DirectedSpans → FinMap position_cmp ℕ → List Position → Type 0
CoversOne index others positions =
    (anchor : Position) × IsSome (get index.spans anchor)
    × (let extent = extent_of index.direction (span_at index.spans anchor) (span_at others anchor) in
    IsTrue (list_any (covers anchor extent.columns extent.rows) positions))
