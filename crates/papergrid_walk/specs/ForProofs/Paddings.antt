-- What a walk knows of the paddings of cells.
use Rattle.std.specs.Prelude.{◌≡◌, ℕ, IfSome, Option, None, false, slice_get, true}
use Rattle.papergrid_values.specs.declared.entity.Entity.{Entity}
use Rattle.papergrid_values.specs.declared.entity.Entity.TheVariants.{Cell, Column}
use Rattle.papergrid_values.specs.declared.position.Position.{Position}
use Rattle.papergrid_maps.specs.Grids.{Grid}
use Rattle.papergrid_maps.specs.Paddings.{paddings_at, set_in_row}
use Rattle.papergrid_maps.specs.declared.view.Paddings.{Paddings}
use Rattle.papergrid_walk.specs.ForProofs.Filters.{passes}
use Rattle.papergrid_walk.specs.declared.known.KnownPaddings.{KnownPaddings}
use Rattle.papergrid_walk.specs.declared.position_filter.PositionFilter.{PositionFilter}

-- nothing is set for a cell that does not pass the filter
abbrev pub TellsOwn : (Entity → Option Paddings) → PositionFilter → Type 0
TellsOwn set filter = (p : Position) → passes filter p ≡ false → set (Cell p.row p.col) ≡ None

-- what is known of the paddings of all cells, else of which cells have none of their own, and of the first columns and of one row
pub record Knows (grid : Grid) (set : Entity → Option Paddings) (known : KnownPaddings) : Type 0 where
  pub common : known.are_common ≡ true → (p : Position) → paddings_at grid p ≡ known.last
  pub own : known.are_common ≡ false → TellsOwn set known.own
  pub columns : (c : ℕ) → IfSome (slice_get known.columns.items c) (λ found. found ≡ set (Column c))
  pub in_row : known.in_row ≡ set_in_row set known.row
