-- What the layout of records is.
use Rattle.std.specs.Prelude.{ℕ, List, Result, Ok, Err}
use Rattle.papergrid_text.specs.Records.{TellsRows}
use Rattle.papergrid_config.specs.Grids.{spanned_grid}
use Rattle.papergrid_config.specs.History.{HasSettingHistory}
use Rattle.papergrid_config.specs.declared.setting.Setting.{Setting}
use Rattle.papergrid_config.specs.declared.spanned.SpannedConfig.{SpannedConfig}
use Rattle.papergrid_tracks.specs.declared.error.LayoutError.{LayoutError}
use Rattle.papergrid_tracks.specs.declared.sizing.Sizing.{Sizing}
use Rattle.papergrid_maps.specs.Grids.{Grid}
use Rattle.papergrid_layout.specs.Answers.{AreBothSizes, IsBothRefused, UnlessMemory}
use Rattle.papergrid_layout.specs.declared.grid_dimension.GridDimension.{GridDimension}

module _ {C : Type 0} (grid : Grid) (measure : C → ℕ × ℕ) (columns : ℕ) (cells : List (List C)) where
  -- a dimension with exactly the widths and the heights that are chosen so, or why there is none
  abbrev pub IsLaidOut : {T M : Type 0} → Sizing → Result (GridDimension T M) LayoutError → Type 0
  IsLaidOut sizing (Ok dimension) = AreBothSizes grid measure columns cells sizing dimension.widths dimension.heights
  IsLaidOut sizing (Err e) = IsBothRefused grid measure columns cells sizing e

-- by a configuration that the settings make, and of the rows that the records tell
abbrev pub IsLayoutBy : {R C T M : Type 0} → (R → List (List C) → Type 0) → (C → ℕ × ℕ) → (R → ℕ) → List Setting → R → Sizing → Result (GridDimension T M) LayoutError → Type 0
IsLayoutBy tells measure columns settings records sizing result =
    UnlessMemory result ((config : SpannedConfig) × HasSettingHistory settings config
    × TellsRows tells records (λ cells. IsLaidOut (spanned_grid config) measure (columns records) cells sizing result))
