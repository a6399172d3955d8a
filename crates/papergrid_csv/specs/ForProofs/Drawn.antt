-- How calls that draw the table of a CSV text end, and what they write.
use Rattle.std.specs.Prelude.{◌≡◌, ℕ, false, List, [], Option, None, Some, Result, Ok, Err, length}
use Rattle.papergrid_values.specs.declared.direction.Direction.TheVariants.{Columns}
use Rattle.papergrid_values.specs.declared.position.Position.{Position}
use Rattle.papergrid_config.specs.declared.setting.Setting.{Setting}
use Rattle.papergrid_config.specs.declared.spanned.SpannedConfig.{SpannedConfig}
use Rattle.papergrid_layout.specs.Places.{total_along}
use Rattle.papergrid_draw.specs.Sinks.{IsRefusal}
use Rattle.papergrid_draw.specs.Drawings.{Drawing, layout_of}
use Rattle.papergrid_draw.specs.Faults.{IsDrawFault}
use Rattle.papergrid_draw.specs.Tiles.{IsFirstPosition, IsTiled}
use Rattle.papergrid_draw.specs.declared.error.DrawError.{DrawError}
use Rattle.papergrid_draw.specs.declared.error.DrawError.TheVariants as draw_errors
use Rattle.papergrid_draw.specs.Crossings.{FitCrossings, IsFitFault}
use Rattle.papergrid_draw.specs.Lined.{lined}
use Rattle.papergrid_draw.specs.declared.crossings.Junctions.{Junctions}
use Rattle.papergrid_draw.specs.Pictures.{IsDrawingWith, IsFaultWith}
use Rattle.papergrid_script.specs.declared.reading.RunFault.{RunFault}
use Rattle.papergrid_script.specs.declared.reading.RunFault.TheVariants as run_faults
use Rattle.papergrid_csv.specs.Judging.{IsFieldHidden, first_missing}
use Rattle.papergrid_csv.specs.Pictures.{IsConfigured, IsNarrow, IsUnfitted, IsWide}
use Rattle.papergrid_csv.specs.Requests.{first_row, settings_of}
use Rattle.papergrid_csv.specs.Shown.{AreCut}
use Rattle.papergrid_csv.specs.declared.reading.RowsError.{RowsError}
use Rattle.papergrid_csv.specs.declared.reading.RowsError.TheVariants as rows_errors
use Rattle.papergrid_csv.specs.declared.request.Request.{Request}
use Rattle.papergrid_csv.specs.declared.run.CsvEnd.{CsvEnd}
use Rattle.papergrid_csv.specs.declared.run.CsvEnd.TheVariants.{Drawn, Hides, NoColumn, NotText, Ragged, Refused, TooWide, Unclosed}

-- ---- ends

-- how a run ends whose input was not read
abbrev pub end_unread : RowsError → Result CsvEnd RunFault
end_unread (rows_errors.NotText before) = Ok (NotText before)
end_unread (rows_errors.Unclosed count) = Ok (Unclosed count)
end_unread (rows_errors.Ragged before fields first) = Ok (Ragged before fields first)
end_unread rows_errors.Memory = Err run_faults.Memory

-- how a run ends whose table was not drawn
abbrev pub end_refused : DrawError → Result CsvEnd RunFault
end_refused (draw_errors.Memory e) = Err run_faults.Memory
end_refused draw_errors.Write = Err run_faults.Write
end_refused e = Ok (Refused e)

-- ---- what is written at an end, by layers

-- of a drawing whose cells have room
abbrev pub IsTableRun : Option ℕ → Drawing → CsvEnd → List ℕ → Type 0
IsTableRun greatest d Drawn output =
    IsTiled (layout_of d) × IsNarrow greatest (total_along (layout_of d) Columns) × (output ≡ lined d)
IsTableRun greatest d (TooWide width) output =
    IsTiled (layout_of d) × (width ≡ total_along (layout_of d) Columns) × IsWide greatest width × (output ≡ [])
IsTableRun greatest d (Refused e) output = IsRefusal e × IsDrawFault d e × (output ≡ [])
IsTableRun greatest d _ output = ⊥

-- of rows of texts by a configuration
pub data IsConfigRun (request : Request) (columns : ℕ) (texts : List (List (List ℕ))) (config : SpannedConfig) (end : CsvEnd) (output : List ℕ) : Type 0 where
  Sized : (d : Drawing) → IsDrawingWith columns texts request.sizing config d → IsTableRun request.max_width d end output → IsConfigRun request columns texts config end output
  Faulted : (e : DrawError) → end ≡ Refused e → IsRefusal e → IsFaultWith columns texts request.sizing config e → output ≡ [] → IsConfigRun request columns texts config end output

-- of rows of texts by settings
pub data IsSettingsRun (request : Request) (settings : List Setting) (shape : ℕ × ℕ) (columns : ℕ) (texts : List (List (List ℕ))) (end : CsvEnd) (output : List ℕ) : Type 0 where
  Configured : (config : SpannedConfig) → IsConfigured request settings shape config → IsConfigRun request columns texts config end output → IsSettingsRun request settings shape columns texts end output
  Crossed : (e : DrawError) → end ≡ Refused e → IsRefusal e → IsUnfitted request.junctions settings shape e → output ≡ [] → IsSettingsRun request settings shape columns texts end output

-- nothing keeps rows from their picture
pub record IsFree (request : Request) (rows : List (List (List ℕ))) : Type 0 where
  pub named : first_missing (first_row rows) request.columns.items ≡ None
  pub seen : request.hides ≡ false → (p : Position) → IsFieldHidden request.spans.items rows p → ⊥

-- a name or a span does
abbrev pub IsKeptBy : Request → List (List (List ℕ)) → CsvEnd → Type 0
IsKeptBy request rows (NoColumn entry) = first_missing (first_row rows) request.columns.items ≡ Some entry
IsKeptBy request rows (Hides p) =
    (first_missing (first_row rows) request.columns.items ≡ None) × (request.hides ≡ false) × IsFirstPosition (IsFieldHidden request.spans.items rows) p
IsKeptBy request rows _ = ⊥

-- of rows
pub data IsRowsRun (request : Request) (columns : ℕ) (rows : List (List (List ℕ))) (end : CsvEnd) (output : List ℕ) : Type 0 where
  Free : (shown : List (List (List ℕ))) → IsFree request rows → AreCut request.cut rows shown →
      IsSettingsRun request (settings_of request columns rows) (length rows, columns) columns shown end output → IsRowsRun request columns rows end output
  Kept : IsKeptBy request rows end → output ≡ [] → IsRowsRun request columns rows end output

-- ---- crossings

-- settings that fit the crossings of a configuration, none where they need not fit
abbrev pub AreFittingOf : Option Junctions → SpannedConfig → ℕ × ℕ → List Setting → Type 0
AreFittingOf None config shape fitted = fitted ≡ []
AreFittingOf (Some junctions) config shape fitted = FitCrossings config shape junctions fitted

-- why there are none
abbrev pub IsFitFaultOf : Option Junctions → SpannedConfig → ℕ × ℕ → DrawError → Type 0
IsFitFaultOf None config shape e = ⊥
IsFitFaultOf (Some junctions) config shape e = IsFitFault config shape e
