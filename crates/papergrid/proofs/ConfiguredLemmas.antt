-- What a result by a configuration is, where the settings make that configuration.
use Rattle.std.proofs.Common.{List}
use Rattle.std.specs.Prelude.{IfErr, IfOk, Result, Ok, Err}
use Rattle.papergrid_tracks.specs.declared.error.LayoutError.{LayoutError}
use Rattle.papergrid_tracks.specs.declared.error.LayoutError.TheVariants.{OutOfTable, TooLarge, Memory}
use Rattle.papergrid_config.specs.declared.setting.Setting.{Setting}
use Rattle.papergrid_config.specs.declared.spanned.SpannedConfig.{SpannedConfig}
use Rattle.papergrid_maps.specs.Grids.{Grid}
use Rattle.papergrid_config.specs.Grids.{spanned_grid}
use Rattle.papergrid_layout.specs.Answers.{UnlessMemory, UnlessMemoryError}
use Rattle.papergrid_config.specs.History.{HasSettingHistory}

-- what holds of a result by such a configuration, with the configuration
pub configured_read : {A C : Type 0} (Tells : List (List C) → Type 0) (holds : Grid → List (List C) → Result A LayoutError → Type 0) (settings : List Setting) (config : SpannedConfig) → HasSettingHistory settings config → (result : Result A LayoutError)
    → IfOk result (λ x. (cells : List (List C)) × Tells cells × holds (spanned_grid config) cells (Ok x))
    → IfErr result (λ e. UnlessMemoryError e ((cells : List (List C)) × Tells cells × holds (spanned_grid config) cells (Err e)))
    → UnlessMemory result ((config : SpannedConfig) × HasSettingHistory settings config × ((cells : List (List C)) × Tells cells × holds (spanned_grid config) cells result))
configured_read Tells holds settings config is (Ok x) ok err = (config, is, ok)
configured_read Tells holds settings config is (Err (OutOfTable place)) ok err = (config, is, err)
configured_read Tells holds settings config is (Err TooLarge) ok err = (config, is, err)
configured_read Tells holds settings config is (Err (Memory e)) ok err = tt
