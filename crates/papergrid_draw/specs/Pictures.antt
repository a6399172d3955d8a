-- The pictures of texts: the drawing by a configuration, or by settings that tell one, and why there is none.
use Rattle.std.specs.Prelude.{◌≡◌, ℕ, List, None, map}
use Rattle.papergrid_text.specs.HeldRows.{rows_held}
use Rattle.papergrid_text.specs.declared.vec_records.VecRecords.{VecRecords}
use Rattle.papergrid_config.specs.declared.setting.Setting.{Setting}
use Rattle.papergrid_config.specs.declared.spanned.SpannedConfig.{SpannedConfig}
use Rattle.papergrid_tracks.specs.declared.sizing.Sizing.{Sizing}
use Rattle.papergrid_tracks.specs.declared.error.LayoutError.{LayoutError}
use Rattle.papergrid_draw.specs.Drawings.{Drawing, drawn_of}
use Rattle.papergrid_draw.specs.Errors.{draw_error_of}
use Rattle.papergrid_draw.specs.Faults.{IsDrawFault}
use Rattle.papergrid_draw.specs.declared.error.DrawError.{DrawError}
use Rattle.papergrid_draw.specs.Cells.{lines_at, text_lines}
use Rattle.papergrid_walk.specs.Measures.{text_measure}
use Rattle.papergrid_config.specs.History.{HasSettingHistory}
use Rattle.papergrid_layout.specs.Answers.{AreBothSizes, IsBothRefused}
use Rattle.papergrid_config.specs.Grids.{spanned_grid}

-- the texts of records that hold their rows
abbrev pub texts_held : {T : Type 0} → (T → List ℕ) → VecRecords T → List (List (List ℕ))
texts_held text records = map (λ row. map text row.items) (rows_held records).items

-- the drawing of rows of texts by a configuration, with these widths and heights
abbrev pub texts_drawing : SpannedConfig → List (List (List ℕ)) → List ℕ → List ℕ → Drawing
texts_drawing config texts widths heights =
    drawn_of (lines_at text_lines) (λ _ _. None) (record { config = config; widths = widths; heights = heights }) texts

module _ (columns : ℕ) (texts : List (List (List ℕ))) (sizing : Sizing) where
  -- the drawing of these texts by a configuration, with the sizes that are chosen so
  pub record IsDrawingWith (config : SpannedConfig) (d : Drawing) : Type 0 where
    pub widths : List ℕ
    pub heights : List ℕ
    pub sized : AreBothSizes (spanned_grid config) text_measure columns texts sizing widths heights
    pub is : d ≡ texts_drawing config texts widths heights

  -- why there is none by a configuration: there are no sizes, or it can't be drawn with them
  pub data IsFaultWith (config : SpannedConfig) (e : DrawError) : Type 0 where
    Unsized : (error : LayoutError) → e ≡ draw_error_of error → IsBothRefused (spanned_grid config) text_measure columns texts sizing error → IsFaultWith config e
    Undrawn : (d : Drawing) → IsDrawingWith config d → IsDrawFault d e → IsFaultWith config e

  module _ (settings : List Setting) where
    -- the drawing by a configuration that the settings make
    abbrev pub IsDrawingBy : Drawing → Type 0
    IsDrawingBy d = (config : SpannedConfig) × HasSettingHistory settings config × IsDrawingWith config d

    -- why there is none
    abbrev pub IsPictureFault : DrawError → Type 0
    IsPictureFault e = (config : SpannedConfig) × HasSettingHistory settings config × IsFaultWith config e
