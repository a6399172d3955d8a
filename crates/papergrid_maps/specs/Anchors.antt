-- The anchors of the spans of all positions.
use Rattle.std.specs.Prelude.{◌≡◌, ℕ, ◌+◌, ◌<◌, ◌≤◌, List, Some, slice_get}
use Rattle.papergrid_values.specs.Positions.{IsBefore}
use Rattle.papergrid_values.specs.declared.direction.Direction.{Direction}
use Rattle.papergrid_values.specs.declared.direction.Direction.TheVariants.{Columns, Rows}
use Rattle.papergrid_values.specs.declared.position.Position.{Position}
use Rattle.papergrid_maps.specs.declared.anchors.Anchor.{Anchor}

-- the position lies in the anchor's rectangle, whose spans are not bounded
pub record IsWithin (anchor : Anchor) (p : Position) : Type 0 where
  pub below_top : anchor.position.row ≤ p.row
  pub above_bottom : p.row < anchor.position.row + anchor.rows
  pub after_left : anchor.position.col ≤ p.col
  pub before_right : p.col < anchor.position.col + anchor.cols

-- the index of the anchor at a position
pub record HasAnchor (anchors : List Anchor) (p : Position) : Type 0 where
  pub index : ℕ
  pub anchor : Anchor
  pub is_anchor : slice_get anchors index ≡ Some anchor
  pub is_there : anchor.position ≡ p

-- the anchors have the spans of their positions, and each position with a span of two or more has an
-- anchor
pub record AreAnchors (span : Direction → Position → ℕ) (anchors : List Anchor) : Type 0 where
  pub has_rows : (k : ℕ) (a : Anchor) → slice_get anchors k ≡ Some a → a.rows ≡ span Rows a.position
  pub has_cols : (k : ℕ) (a : Anchor) → slice_get anchors k ≡ Some a → a.cols ≡ span Columns a.position
  pub has_each : (d : Direction) (p : Position) → 2 ≤ span d p → HasAnchor anchors p

-- by row and then by column, no two at one position
abbrev pub IsSorted : List Anchor → Type 0
IsSorted anchors =
    (j k : ℕ) (a b : Anchor) → j < k → slice_get anchors j ≡ Some a → slice_get anchors k ≡ Some b →
    IsBefore a.position b.position
