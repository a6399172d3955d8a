-- The cells that anchors hide.
use Rattle.std.specs.Prelude.{◌↔◌, ◌≡◌, ◌≢◌, ℕ, ◌≤◌, IsTrue, List, Some, slice_get}
use Rattle.papergrid_values.specs.declared.direction.Direction.{Direction}
use Rattle.papergrid_values.specs.declared.position.Position.{Position}
use Rattle.papergrid_maps.specs.Anchors.{AreAnchors, IsWithin}
use Rattle.papergrid_maps.specs.Grids.{Grid}
use Rattle.papergrid_maps.specs.declared.anchors.Anchor.{Anchor}

-- in the rectangle of another anchor
pub record IsHidden (anchors : List Anchor) (p : Position) : Type 0 where
  pub index : ℕ
  pub anchor : Anchor
  pub is_anchor : slice_get anchors index ≡ Some anchor
  pub is_other : anchor.position ≢ p
  pub is_in : IsWithin anchor p

-- the anchors hide what is not shown, and have the spans of two and more
pub record AreAnchorsOf (grid : Grid) (anchors : List Anchor) : Type 0 where
  pub hide : (p : Position) → IsTrue (grid.shows p) ↔ (IsHidden anchors p → ⊥)
  pub spans : AreAnchors grid.span anchors
  pub from_one : (direction : Direction) (p : Position) → 1 ≤ grid.span direction p
