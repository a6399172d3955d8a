-- What a walk knows of the visible positions.
use Rattle.std.specs.Prelude.{◌≡◌, ◌≤◌, ℕ}
use Rattle.papergrid_values.specs.declared.direction.Direction.TheVariants.{Columns, Rows}
use Rattle.papergrid_values.specs.declared.position.Position.{Position}
use Rattle.papergrid_maps.specs.declared.anchors.Anchor.{Anchor}
use Rattle.papergrid_maps.specs.Hidden.{AreAnchorsOf}
use Rattle.papergrid_walk.specs.ForProofs.Swept.{IsAhead, Walk}
use Rattle.papergrid_maps.specs.Grids.{Grid}

-- a position with its spans
abbrev pub anchor_in : Grid → Position → Anchor
anchor_in grid p = record { position = p; rows = grid.span Rows p; cols = grid.span Columns p }

-- the walk may go on at row r and column c, and then tells what is shown
pub record Shows (grid : Grid) (walk : Walk) (r c : ℕ) : Type 0 where
  pub anchors : AreAnchorsOf grid walk.anchors
  pub ahead : (q : Position) → r ≤ q.row → (r ≡ q.row → c ≤ q.col) → IsAhead walk q
