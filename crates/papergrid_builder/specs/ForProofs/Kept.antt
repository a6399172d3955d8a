-- What a builder keeps.
use Rattle.std.specs.Prelude.{ℕ, Bool, List, Option, IfSome, length, option_map}
use Rattle.papergrid_config.specs.declared.setting.Setting.{Setting}
use Rattle.papergrid_layout.specs.Certificates.{solutions_of}
use Rattle.papergrid_layout.specs.Tables.{TableParts}
use Rattle.papergrid_tracks.specs.declared.sizing.Sizing.{Sizing}
use Rattle.papergrid_json.specs.Documents.{AreInRange}
use Rattle.papergrid_builder.specs.Layouts.{IsFoundTable, parts_found}
use Rattle.papergrid_builder.specs.BuilderStates.{FoundTable, BuilderState}
use Rattle.papergrid_builder.specs.ForProofs.Texts.{AreStarts, rows_told}
use Rattle.papergrid_builder.specs.declared.found.Found.{Found}

-- what was found
abbrev pub found_of : Found → FoundTable
found_of found = record { config = found.config; along = solutions_of found.along }

-- the configuration with the sizes that were found
abbrev pub found_parts : Found → TableParts
found_parts found = parts_found (found_of found)

-- what is told of a table that is kept so
abbrev pub told_by : List Setting → List (List ℕ) → List ℕ → Bool → Option Found → List ℕ → BuilderState
told_by settings cells starts goes_on found picture = record {
  settings = settings;
  rows = rows_told cells starts;
  goes_on = goes_on;
  found = option_map found_of found;
  picture = picture;
}

-- what is known of it
pub record IsKept (settings : List Setting) (cells : List (List ℕ)) (starts : List ℕ) (found : Option Found) : Type 0 where
  pub in_range : AreInRange settings
  pub within : AreStarts (length cells) starts
  pub current : IfSome found (λ f. (sizing : Sizing) × IsFoundTable settings (rows_told cells starts) sizing (found_of f))
