-- What a walk gathers along both directions.
use Rattle.std.specs.Prelude.{ℕ, ◌≡◌, ◌+◌, ◌-◌, ◌<◌, ◌^◌, List, [], ◌∷◌, Option, length}
use Rattle.papergrid_values.specs.declared.direction.Direction.TheVariants.{Columns, Rows}
use Rattle.papergrid_values.specs.declared.entity.Entity.{Entity}
use Rattle.papergrid_values.specs.declared.per_direction.PerDirection.{PerDirection}
use Rattle.papergrid_values.specs.declared.position.Position.{Position}
use Rattle.papergrid_tracks.specs.declared.demands.Demands.{Demands}
use Rattle.papergrid_tracks.specs.ForProofs.Demands.{AddsDemands, AreGathered}
use Rattle.papergrid_walk.specs.declared.demand_visitors.BothDemandVisitor.{BothDemandVisitor}
use Rattle.papergrid_walk.specs.declared.demand_visitors.View.{View}
use Rattle.papergrid_maps.specs.declared.view.Paddings.{Paddings}
use Rattle.papergrid_walk.specs.Cells.{demands_by, demands_of}
use Rattle.papergrid_walk.specs.ForProofs.Paddings.{Knows}
use Rattle.papergrid_walk.specs.ForProofs.Shown.{Shows}
use Rattle.papergrid_maps.specs.Grids.{Grid}

-- what the visible cells ask for was kept, along columns and along rows
pub record AreBothGathered {C : Type 0} (grid : Grid) (measure : C → ℕ × ℕ) (columns : ℕ) (cells : List (List C)) (both : PerDirection Demands) : Type 0 where
  pub wide : AreGathered columns both.columns (demands_of Columns grid measure cells)
  pub high : AreGathered (length cells) both.rows (demands_of Rows grid measure cells)

-- what these cells ask for along columns and along rows is kept besides
abbrev pub AddsBoth : {C : Type 0} → Grid → (C → ℕ × ℕ) → PerDirection Demands → PerDirection Demands → List (Position × C) → Type 0
AddsBoth grid measure old new cells =
    AddsDemands old.columns new.columns (demands_by Columns grid measure cells) × AddsDemands old.rows new.rows (demands_by Rows grid measure cells)

module _ {S : Type 0} (grid : S → Grid) (set : S → Entity → Option Paddings) where
  -- what a walk knows before the cell at a row and a column: which cells are visible from there on, and the paddings of all
  abbrev pub StandsAt : View S → ℕ → ℕ → Type 0
  StandsAt view row column = Shows (grid view.settings.now) view.sweep row column × Knows (grid view.settings.now) (set view.settings.now) view.known

  -- it stands before a cell that has neighbours
  pub record IsReadyAt (view : View S) (position : Position) : Type 0 where
    pub stands : StandsAt view position.row position.col
    pub row_in : position.row < 2 ^ 64 - 1
    pub col_in : position.col < 2 ^ 64 - 1

  -- what the cell asks for was kept besides, and the walk stands before the next one
  pub record KeepsCell {M C : Type 0} (measure : C → ℕ × ℕ) (old new : BothDemandVisitor M S) (position : Position) (cell : C) : Type 0 where
    pub adds : AddsBoth (grid old.view.settings.now) measure old.both new.both ((position, cell) ∷ [])
    pub stands : StandsAt new.view position.row (position.col + 1)
    pub settings : new.view.settings ≡ old.view.settings
