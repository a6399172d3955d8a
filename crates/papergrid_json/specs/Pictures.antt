-- The picture of a document.
use Rattle.std.specs.Prelude.{◌≡◌, ℕ, List, Option, None, Some, Result, Ok, Err}
use Rattle.std.specs.BTreeMap.{get}
use Rattle.papergrid_values.specs.MapKeys.{position_cmp}
use Rattle.papergrid_config.specs.declared.spanned.SpannedConfig.{SpannedConfig}
use Rattle.papergrid_layout.specs.Tables.{IsTotalTooLarge, TableParts, view_of}
use Rattle.papergrid_tracks.specs.declared.sizing.Sizing.{Sizing}
use Rattle.papergrid_tracks.specs.declared.error.LayoutError.{LayoutError}
use Rattle.papergrid_tracks.specs.declared.error.LayoutError.TheVariants.{TooLarge}
use Rattle.papergrid_draw.specs.Drawings.{Drawing, drawn_of}
use Rattle.papergrid_draw.specs.Errors.{draw_error_of}
use Rattle.papergrid_draw.specs.Faults.{IsDrawFault}
use Rattle.papergrid_draw.specs.declared.error.DrawError.{DrawError}
use Rattle.papergrid_draw.specs.Cells.{lines_at, text_lines}
use Rattle.papergrid_walk.specs.Measures.{text_measure}
use Rattle.papergrid_config.specs.History.{HasSettingHistory}
use Rattle.papergrid_json.specs.Documents.{document_texts}
use Rattle.papergrid_json.specs.declared.document.Document.{Document}
use Rattle.papergrid_json.specs.declared.document.OwnSizes.{OwnSizes}
use Rattle.papergrid_layout.specs.Answers.{AreBothSizes, IsBothRefused}
use Rattle.papergrid_config.specs.Grids.{spanned_grid}

-- its drawing by a configuration, with these widths and heights: its texts, in its colours
abbrev pub document_drawing : SpannedConfig → Document → List ℕ → List ℕ → Drawing
document_drawing config document widths heights =
    drawn_of (lines_at text_lines) (λ _. get position_cmp document.colors) (record { config = config; widths = widths; heights = heights })
    (document_texts document)

module _ (document : Document) (sizing : Sizing) where
  module _ (config : SpannedConfig) where
    -- the table of sizes of its own
    abbrev pub own_table : OwnSizes → TableParts
    own_table own = record { config = config; widths = own.widths.items; heights = own.heights.items }

    -- its widths and heights: those of its own, unless they come to too much, else those that are chosen so
    abbrev pub AreSizesOf : Option OwnSizes → List ℕ → List ℕ → Type 0
    AreSizesOf None widths heights = AreBothSizes (spanned_grid config) text_measure document.columns (document_texts document) sizing widths heights
    AreSizesOf (Some own) widths heights =
        (widths ≡ own.widths.items) × (heights ≡ own.heights.items) × (IsTotalTooLarge (view_of (own_table own)) → ⊥)

    -- why it has none: there are none that are chosen so, or those of its own come to too much
    abbrev pub AreNoSizesOf : Option OwnSizes → LayoutError → Type 0
    AreNoSizesOf None e = IsBothRefused (spanned_grid config) text_measure document.columns (document_texts document) sizing e
    AreNoSizesOf (Some own) e = (e ≡ TooLarge) × IsTotalTooLarge (view_of (own_table own))

    -- its table, or why there is none
    abbrev pub IsDocumentTable : Result TableParts LayoutError → Type 0
    IsDocumentTable (Ok table) = (table.config ≡ config) × AreSizesOf document.sizes table.widths table.heights
    IsDocumentTable (Err e) = AreNoSizesOf document.sizes e

    -- its drawing with such sizes
    pub record IsDocumentDrawingWith (d : Drawing) : Type 0 where
      pub widths : List ℕ
      pub heights : List ℕ
      pub sized : AreSizesOf document.sizes widths heights
      pub is : d ≡ document_drawing config document widths heights

    -- why it has none: there are no sizes, or it can't be drawn with them
    pub data IsDocumentFaultWith (e : DrawError) : Type 0 where
      Unsized : (error : LayoutError) → e ≡ draw_error_of error → AreNoSizesOf document.sizes error → IsDocumentFaultWith e
      Undrawn : (d : Drawing) → IsDocumentDrawingWith d → IsDrawFault d e → IsDocumentFaultWith e

  -- its drawing by a configuration that its settings make
  abbrev pub IsDocumentDrawing : Drawing → Type 0
  IsDocumentDrawing d = (config : SpannedConfig) × HasSettingHistory document.settings.items config × IsDocumentDrawingWith config d

  -- why it has none
  abbrev pub IsDocumentFault : DrawError → Type 0
  IsDocumentFault e = (config : SpannedConfig) × HasSettingHistory document.settings.items config × IsDocumentFaultWith config e
