use Rattle.std.proofs.Common.{◌≡◌, ◌<◌, ◌-◌, ℕ, length, get_or, Some}
use Rattle.papergrid_values.specs.Positions.{position_of}
use Rattle.papergrid_values.specs.declared.position.Position.{Position}
use Rattle.papergrid_config.specs.Grids.{spanned_grid}
use Rattle.papergrid_layout.specs.Places.{TableView}
use Rattle.papergrid_draw.specs.Tiles.{IsTiled, owner}
use Rattle.papergrid_draw.specs.ForProofs.Crossings.{AreOwners}
use Rattle.papergrid_draw.proofs.crossings.find_owners.Given as goal

abbrev pub invariant-loop-col : goal.invariant-loop-col
invariant-loop-col l =
    (table : TableView) → table.grid ≡ spanned_grid l.config → IsTiled table → l.row < table.shape.0 → length l.above ≡ table.shape.1 →
    (0 < l.row → AreOwners table (l.row - 1) l.above) →
    ((k : ℕ) (other : Position) → k < l.col → owner table (position_of (l.row, k)) ≡ Some (get_or l.owners k other))
    × (0 < l.col → owner table (position_of (l.row, l.col - 1)) ≡ Some l.left)
