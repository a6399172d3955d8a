-- Sizes of rows, and the cells that certify them, by layers.
use Rattle.std.specs.Prelude.{ℕ, List, Option, None, Result, Ok, Err, length}
use Rattle.std.specs.declared.alloc.AllocError.{AllocError}
use Rattle.papergrid_values.specs.declared.per_direction.PerDirection.{PerDirection}
use Rattle.papergrid_tracks.specs.declared.solution.Solved.{Solved}
use Rattle.papergrid_config.specs.Grids.{spanned_grid}
use Rattle.papergrid_config.specs.declared.setting.Setting.{Setting}
use Rattle.papergrid_config.specs.declared.spanned.SpannedConfig.{SpannedConfig}
use Rattle.papergrid_walk.specs.Measures.{text_measure}
use Rattle.papergrid_layout.specs.Answers.{HoldAlong}
use Rattle.papergrid_layout.specs.Certificates.{IsCertifiedBy}
use Rattle.papergrid_draw.specs.Drawings.{layout_of}
use Rattle.papergrid_draw.specs.Pictures.{texts_drawing}
use Rattle.papergrid_draw.specs.Tiles.{IsTiled}
use Rattle.papergrid_draw.specs.declared.error.DrawError.{DrawError}
use Rattle.papergrid_draw.specs.declared.error.DrawError.TheVariants.{Memory}
use Rattle.papergrid_csv.specs.Pictures.{IsConfigured}
use Rattle.papergrid_csv.specs.Requests.{settings_of}
use Rattle.papergrid_csv.specs.Shown.{AreCut}
use Rattle.papergrid_csv.specs.ForProofs.Drawn.{IsFree}
use Rattle.papergrid_csv.specs.declared.request.Request.{Request}

-- of rows of texts by a configuration, whose spans tile them
pub record AreConfigSolved (request : Request) (columns : ℕ) (texts : List (List (List ℕ))) (config : SpannedConfig) (found : PerDirection Solved) : Type 0 where
  pub certified : HoldAlong (spanned_grid config) text_measure columns texts (IsCertifiedBy request.sizing) found.columns found.rows
  pub tiled : IsTiled (layout_of (texts_drawing config texts found.columns.sizes.items found.rows.sizes.items))

-- by settings
abbrev pub AreSettingsSolved : Request → List Setting → ℕ × ℕ → ℕ → List (List (List ℕ)) → PerDirection Solved → Type 0
AreSettingsSolved request settings shape columns texts found =
    (config : SpannedConfig) × IsConfigured request settings shape config × AreConfigSolved request columns texts config found

-- of rows
abbrev pub AreRowsSolved : Request → ℕ → List (List (List ℕ)) → PerDirection Solved → Type 0
AreRowsSolved request columns rows found =
    (shown : List (List (List ℕ))) × IsFree request rows × AreCut request.cut rows shown
    × AreSettingsSolved request (settings_of request columns rows) (length rows, columns) columns shown found

-- nothing is found of a table that is refused, if memory was not
abbrev pub unless_refused : {A : Type 0} → DrawError → Result (Option A) AllocError
unless_refused (Memory e) = Err e
unless_refused e = Ok None
