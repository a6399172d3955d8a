-- The picture of a CSV text.
use Rattle.std.specs.Prelude.{◌≡◌, ◌<◌, ◌≤◌, ◌++◌, ⊤, ℕ, Bool, false, List, [], length, Option, None, Some, Result}
use Rattle.papergrid_values.specs.declared.direction.Direction.TheVariants.{Columns}
use Rattle.papergrid_values.specs.declared.position.Position.{Position}
use Rattle.papergrid_config.specs.declared.setting.Setting.{Setting}
use Rattle.papergrid_config.specs.declared.spanned.SpannedConfig.{SpannedConfig}
use Rattle.papergrid_layout.specs.Places.{total_along}
use Rattle.papergrid_draw.specs.Drawings.{Drawing, layout_of}
use Rattle.papergrid_draw.specs.Tiles.{IsFirstPosition, IsTiled}
use Rattle.papergrid_draw.specs.declared.error.DrawError.{DrawError}
use Rattle.papergrid_draw.specs.Crossings.{BecomesBy, FitCrossings, IsFitFault}
use Rattle.papergrid_draw.specs.Lined.{lined}
use Rattle.papergrid_draw.specs.declared.crossings.Junctions.{Junctions}
use Rattle.papergrid_config.specs.History.{HasSettingHistory}
use Rattle.papergrid_draw.specs.Sinks.{IsRefusal}
use Rattle.papergrid_draw.specs.Pictures.{IsDrawingWith, IsFaultWith}
use Rattle.papergrid_script.specs.Writing.{WritesOutput}
use Rattle.papergrid_script.specs.declared.reading.RunFault.{RunFault}
use Rattle.papergrid_csv.specs.Judging.{IsFieldHidden, first_missing}
use Rattle.papergrid_csv.specs.Requests.{first_row, settings_of}
use Rattle.papergrid_csv.specs.Rows.{AreRowsOf, IsUnread}
use Rattle.papergrid_csv.specs.Shown.{AreCut}
use Rattle.papergrid_csv.specs.declared.reading.RowsError.TheVariants as rows_errors
use Rattle.papergrid_csv.specs.declared.request.Request.{Request}
use Rattle.papergrid_csv.specs.declared.run.CsvEnd.{CsvEnd}
use Rattle.papergrid_csv.specs.declared.run.CsvEnd.TheVariants.{Drawn, Hides, NoColumn, NotText, Ragged, Refused, TooWide, Unclosed}

-- the rows of an input, and as they are drawn. Each name of the request is of a column, and no field
-- is hidden, unless fields may be
pub record IsCsvTable (request : Request) (input : List ℕ) : Type 0 where
  pub columns : ℕ
  pub rows : List (List (List ℕ))
  pub shown : List (List (List ℕ))
  pub are : AreRowsOf request.reading input columns rows
  pub named : first_missing (first_row rows) request.columns.items ≡ None
  pub seen : request.hides ≡ false → (p : Position) → IsFieldHidden request.spans.items rows p → ⊥
  pub cut : AreCut request.cut rows shown

-- further settings, by which the crossings of a configuration fit the spans, in a table of so many rows and columns. By
-- them it becomes this one. The list is empty where crossings need not fit
abbrev pub AreFitted : Option Junctions → List Setting → ℕ × ℕ → SpannedConfig → List Setting → Type 0
AreFitted None settings shape config fitted = fitted ≡ []
AreFitted (Some junctions) settings shape config fitted =
    (plain : SpannedConfig) × HasSettingHistory settings plain × FitCrossings plain shape junctions fitted
    × BecomesBy plain config fitted

-- why there are none
abbrev pub IsUnfitted : Option Junctions → List Setting → ℕ × ℕ → DrawError → Type 0
IsUnfitted None settings shape e = ⊥
IsUnfitted (Some junctions) settings shape e =
    (plain : SpannedConfig) × HasSettingHistory settings plain × IsFitFault plain shape e

module _ (request : Request) (settings : List Setting) (shape : ℕ × ℕ) where
  -- a configuration made by these settings, and those by which its crossings fit the spans
  pub record IsConfigured (config : SpannedConfig) : Type 0 where
    pub fitted : List Setting
    pub fit : AreFitted request.junctions settings shape config fitted
    pub told : HasSettingHistory (settings ++ fitted) config

  -- why rows have no picture: their crossings can't be fitted, or they have no sizes, or can't be drawn with them
  pub data IsUnpictured (columns : ℕ) (shown : List (List (List ℕ))) (e : DrawError) : Type 0 where
    Unfitted : IsUnfitted request.junctions settings shape e → IsUnpictured columns shown e
    Faulty : (config : SpannedConfig) → IsConfigured config → IsFaultWith columns shown request.sizing config e → IsUnpictured columns shown e

module _ {request : Request} {input : List ℕ} (table : IsCsvTable request input) where
  -- the settings of a table
  abbrev pub table_settings : List Setting
  table_settings = settings_of request table.columns table.rows

  -- how many rows and columns it has
  abbrev pub table_shape : ℕ × ℕ
  table_shape = (length table.rows, table.columns)

-- the drawing of the rows of an input, by the settings of a request; its spans tile it
pub record IsCsvDrawing (request : Request) (input : List ℕ) (d : Drawing) : Type 0 where
  pub table : IsCsvTable request input
  pub config : SpannedConfig
  pub configured : IsConfigured request (table_settings table) (table_shape table) config
  pub drawn : IsDrawingWith table.columns table.shown request.sizing config d
  pub tiled : IsTiled (layout_of d)

-- why there is none
pub record IsCsvRefused (request : Request) (input : List ℕ) (e : DrawError) : Type 0 where
  pub table : IsCsvTable request input
  pub refuses : IsRefusal e
  pub fault : IsUnpictured request (table_settings table) (table_shape table) table.columns table.shown e

-- a width is at most the greatest that there may be
abbrev pub IsNarrow : Option ℕ → ℕ → Type 0
IsNarrow None width = ⊤
IsNarrow (Some greatest) width = width ≤ greatest

-- it is more
abbrev pub IsWide : Option ℕ → ℕ → Type 0
IsWide None width = ⊥
IsWide (Some greatest) width = greatest < width

-- the first field of an input, by row and then by column, that is hidden and may not be
pub record HidesAt (request : Request) (input : List ℕ) (p : Position) : Type 0 where
  pub columns : ℕ
  pub rows : List (List (List ℕ))
  pub are : AreRowsOf request.reading input columns rows
  pub named : first_missing (first_row rows) request.columns.items ≡ None
  pub forbidden : request.hides ≡ false
  pub first : IsFirstPosition (IsFieldHidden request.spans.items rows) p

-- the first name of a request, in the entry with this number, that is of no column of an input
pub record HasNoColumn (request : Request) (input : List ℕ) (entry : ℕ) : Type 0 where
  pub columns : ℕ
  pub rows : List (List (List ℕ))
  pub are : AreRowsOf request.reading input columns rows
  pub missing : first_missing (first_row rows) request.columns.items ≡ Some entry

-- a run ends so, and nothing is written
abbrev pub IsUnwritten : Request → List ℕ → CsvEnd → Type 0
IsUnwritten request input Drawn = ⊥
IsUnwritten request input (Refused e) = IsCsvRefused request input e
IsUnwritten request input (TooWide width) =
    (d : Drawing) × IsCsvDrawing request input d × (width ≡ total_along (layout_of d) Columns) × IsWide request.max_width width
IsUnwritten request input (Hides p) = HidesAt request input p
IsUnwritten request input (NoColumn entry) = HasNoColumn request input entry
IsUnwritten request input (NotText count) = IsUnread request.reading input (rows_errors.NotText count)
IsUnwritten request input (Unclosed count) = IsUnread request.reading input (rows_errors.Unclosed count)
IsUnwritten request input (Ragged count fields first) = IsUnread request.reading input (rows_errors.Ragged count fields first)

-- how the run of an input ends, and what is written: the lines of its picture, or nothing
abbrev pub IsCsvRun : Request → List ℕ → CsvEnd → List ℕ → Type 0
IsCsvRun request input Drawn output =
    (d : Drawing) × IsCsvDrawing request input d × IsNarrow request.max_width (total_along (layout_of d) Columns) × (output ≡ lined d)
IsCsvRun request input end output = IsUnwritten request input end × (output ≡ [])

-- a picture was written; at no other end anything is
abbrev pub IsPictured : CsvEnd → Type 0
IsPictured end = end ≡ Drawn

-- by what a writer tells: an output was written, of a run that ends accordingly, or it broke off
abbrev pub WritesCsv : {W : Type 0} → (W → Option (List ℕ)) → (W → Bool) → (W → Bool) → (CsvEnd → List ℕ → Type 0) → W → W → Result CsvEnd RunFault → Type 0
WritesCsv contents has_failed has_stalled = WritesOutput contents has_failed has_stalled IsPictured
