-- What a run writes of a table, of records, of rows and of an input.
use Rattle.std.proofs.Common.{Global, Vec, ◌≡◌, ◌∙◌, ℕ, Bool, List, [], Option, None, Some, ap, length, map, refl, subst, sym}
use Rattle.std.specs.Borrow.{Bor}
use Rattle.std.proofs.lemmas.List.{length-map}
use Rattle.papergrid_tracks.specs.declared.error.LayoutError.{LayoutError}
use Rattle.papergrid_tracks.specs.declared.error.LayoutError.TheVariants as layout_errors
use Rattle.papergrid_config.specs.History.{AppendsSettings, HasSettingHistory}
use Rattle.papergrid_config.specs.declared.setting.Setting.{Setting}
use Rattle.papergrid_config.specs.declared.spanned.SpannedConfig.{SpannedConfig}
use Rattle.papergrid_layout.specs.Answers.{IsBothRefused, UnlessMemoryError}
use Rattle.papergrid_draw.specs.Drawings.{Drawing, layout_of}
use Rattle.papergrid_draw.specs.Errors.{draw_error_of}
use Rattle.papergrid_draw.specs.Faults.{IsDrawFault}
use Rattle.papergrid_draw.specs.Tiles.{IsTileFault}
use Rattle.papergrid_draw.specs.declared.error.DrawError.{DrawError}
use Rattle.papergrid_draw.specs.declared.error.DrawError.TheVariants as draw_errors
use Rattle.papergrid_draw.specs.declared.crossings.Junctions.{Junctions}
use Rattle.papergrid_walk.specs.Measures.{text_measure}
use Rattle.papergrid_draw.specs.Sinks.{IsRefusal}
use Rattle.papergrid_draw.specs.Pictures.{IsDrawingWith, Undrawn, Unsized}
use Rattle.papergrid_csv.specs.Pictures.{AreFitted, Faulty, IsConfigured, IsCsvRun, IsCsvTable, IsUnfitted, Unfitted, WritesCsv}
use Rattle.papergrid_csv.specs.Requests.{settings_of}
use Rattle.papergrid_csv.specs.Rows.{AreRowsOf, IsUnread, row_texts, held_texts}
use Rattle.papergrid_csv.specs.Shown.{AreCut}
use Rattle.papergrid_csv.specs.ForProofs.Drawn.{AreFittingOf, Configured, Crossed, Faulted, Free, IsConfigRun, IsFitFaultOf, IsFree, IsKeptBy, IsRowsRun, IsSettingsRun, IsTableRun, Kept, Sized, end_refused, end_unread}
use Rattle.papergrid_csv.specs.declared.reading.RowsError.{RowsError}
use Rattle.papergrid_csv.specs.declared.reading.RowsError.TheVariants as rows_errors
use Rattle.papergrid_csv.specs.declared.request.Request.{Request}
use Rattle.papergrid_csv.specs.declared.run.CsvEnd.{CsvEnd}
use Rattle.papergrid_csv.specs.declared.run.CsvEnd.TheVariants.{Drawn, Hides, NoColumn, NotText, Ragged, Refused, TooWide, Unclosed}
use Rattle.papergrid_csv.proofs.CutTextLemmas.{shown-length}
use Rattle.papergrid_csv.proofs.DrawLemmas.{run-no_memory, run-silent}
use Rattle.papergrid_config.specs.Grids.{spanned_grid}

-- ---- a table

-- spans that do not tile a table keep it from its picture
pub tile-fault : (d : Drawing) (e : DrawError) → IsTileFault (layout_of d) e → IsRefusal e → IsDrawFault d e
tile-fault d (draw_errors.OutOfTable p) fault named = fault
tile-fault d (draw_errors.NotTiled p) fault named = fault
tile-fault d (draw_errors.NoRoom p) fault named = absurd fault
tile-fault d draw_errors.TooLarge fault named = absurd fault
tile-fault d (draw_errors.Memory e) fault named = absurd named
tile-fault d draw_errors.Write fault named = absurd fault

module _ {W : Type 0} (contents : W → Option (List ℕ)) (has_failed has_stalled : W → Bool) where
  -- rows have no sizes
  pub unsized-run : (request : Request) (columns : ℕ) (texts : List (List (List ℕ))) (config : SpannedConfig) (w : W) (e : LayoutError) →
      UnlessMemoryError e (IsBothRefused (spanned_grid config) text_measure columns texts request.sizing e) →
      WritesCsv contents has_failed has_stalled (IsConfigRun request columns texts config) w w (end_refused (draw_error_of e))
  unsized-run request columns texts config w (layout_errors.OutOfTable p) are =
      run-silent contents has_failed has_stalled (IsConfigRun request columns texts config) w (Refused (draw_errors.OutOfTable p))
      (Faulted (draw_errors.OutOfTable p) refl tt (Unsized (layout_errors.OutOfTable p) refl are) refl)
  unsized-run request columns texts config w layout_errors.TooLarge are =
      run-silent contents has_failed has_stalled (IsConfigRun request columns texts config) w (Refused draw_errors.TooLarge)
      (Faulted draw_errors.TooLarge refl tt (Unsized layout_errors.TooLarge refl are) refl)
  unsized-run request columns texts config w (layout_errors.Memory e) are = run-no_memory contents has_failed has_stalled (IsConfigRun request columns texts config) w

  -- an input was not read
  pub unread-run : (request : Request) (input : List ℕ) (w : W) (e : RowsError) → IsUnread request.reading input e →
      WritesCsv contents has_failed has_stalled (IsCsvRun request input) w w (end_unread e)
  unread-run request input w (rows_errors.NotText count) is = run-silent contents has_failed has_stalled (IsCsvRun request input) w (NotText count) (is, refl)
  unread-run request input w (rows_errors.Unclosed count) is = run-silent contents has_failed has_stalled (IsCsvRun request input) w (Unclosed count) (is, refl)
  unread-run request input w (rows_errors.Ragged count fields first) is = run-silent contents has_failed has_stalled (IsCsvRun request input) w (Ragged count fields first) (is, refl)
  unread-run request input w rows_errors.Memory is = run-no_memory contents has_failed has_stalled (IsCsvRun request input) w

-- ---- crossings

pub fitted-of : (junctions : Option Junctions) (settings : List Setting) (plain config : SpannedConfig) (shape : ℕ × ℕ) (fitted : List Setting) → HasSettingHistory settings plain →
    AreFittingOf junctions plain shape fitted → AppendsSettings plain config fitted → AreFitted junctions settings shape config fitted
fitted-of None settings plain config shape fitted told are appends = are
fitted-of (Some junctions) settings plain config shape fitted told are appends = (plain, told, are, record { history = settings; told = told; appends = appends })

pub unfitted-of : (junctions : Option Junctions) (settings : List Setting) (plain : SpannedConfig) (shape : ℕ × ℕ) (e : DrawError) → HasSettingHistory settings plain →
    IsFitFaultOf junctions plain shape e → IsUnfitted junctions settings shape e
unfitted-of None settings plain shape e told is = is
unfitted-of (Some junctions) settings plain shape e told is = (plain, told, is)

-- ---- rows

-- by rows that are lent
pub rows-run-of : (request : Request) (columns : ℕ) (rows : List (List (List ℕ))) → IsFree request rows → (held : Vec (Vec (Bor (List ℕ)) Global) Global) → AreCut request.cut rows (held_texts held) →
    (lent : List (Vec (Bor (List ℕ)) Global)) → lent ≡ held.items →
    (end : CsvEnd) (output : List ℕ) → IsSettingsRun request (settings_of request columns rows) (length lent, columns) columns (map row_texts lent) end output → IsRowsRun request columns rows end output
rows-run-of request columns rows free held cut lent same_rows end output so =
    let same : map row_texts lent ≡ held_texts held = ap (map row_texts) same_rows in
    let counted : length lent ≡ length rows = sym (length-map lent row_texts) ∙ ap length same ∙ shown-length request.cut rows (held_texts held) cut in
    let by_shape = subst (λ n. IsSettingsRun request (settings_of request columns rows) (n, columns) columns (map row_texts lent) end output) counted so in
    Free (held_texts held) free cut (subst (λ t. IsSettingsRun request (settings_of request columns rows) (length rows, columns) columns t end output) same by_shape)

-- ---- an input

module _ (request : Request) (input : List ℕ) (columns : ℕ) (rows : List (List (List ℕ))) (are : AreRowsOf request.reading input columns rows) where
  abbrev table-of : (shown : List (List (List ℕ))) → IsFree request rows → AreCut request.cut rows shown → IsCsvTable request input
  table-of shown free cut = record { columns = columns; rows = rows; shown = shown; are = are; named = free.named; seen = free.seen; cut = cut }

  kept-run : (end : CsvEnd) (output : List ℕ) → IsKeptBy request rows end → output ≡ [] → IsCsvRun request input end output
  kept-run (NoColumn entry) output kept none = (record { columns = columns; rows = rows; are = are; missing = kept }, none)
  kept-run (Hides p) output kept none = (record { columns = columns; rows = rows; are = are; named = kept.0; forbidden = kept.1; first = kept.2 }, none)
  kept-run Drawn output kept none = absurd kept
  kept-run (Refused e) output kept none = absurd kept
  kept-run (TooWide width) output kept none = absurd kept
  kept-run (NotText count) output kept none = absurd kept
  kept-run (Unclosed count) output kept none = absurd kept
  kept-run (Ragged count fields first) output kept none = absurd kept

  module _ (shown : List (List (List ℕ))) (free : IsFree request rows) (cut : AreCut request.cut rows shown) where
    refused-run : (end : CsvEnd) (output : List ℕ) (e : DrawError) → end ≡ Refused e → IsRefusal e → IsUnfitted request.junctions (settings_of request columns rows) (length rows, columns) e → output ≡ [] →
        IsCsvRun request input end output
    refused-run end output e is named unfitted none =
        subst (λ x. IsCsvRun request input x output) (sym is) (record { table = table-of shown free cut; refuses = named; fault = Unfitted unfitted }, none)

    module _ (config : SpannedConfig) (configured : IsConfigured request (settings_of request columns rows) (length rows, columns) config) where
      sized-run : (d : Drawing) → (drawn : IsDrawingWith columns shown request.sizing config d) → (end : CsvEnd) (output : List ℕ) → IsTableRun request.max_width d end output →
          IsCsvRun request input end output
      sized-run d drawn Drawn output so =
          (d, record { table = table-of shown free cut; config = config; configured = configured; drawn = drawn; tiled = so.0 }, so.1, so.2)
      sized-run d drawn (TooWide width) output so =
          ((d, record { table = table-of shown free cut; config = config; configured = configured; drawn = drawn; tiled = so.0 }, so.1, so.2), so.3)
      sized-run d drawn (Refused e) output so =
          (record { table = table-of shown free cut; refuses = so.0; fault = Faulty config configured (Undrawn d drawn so.1) }, so.2)
      sized-run d drawn (NoColumn entry) output so = absurd so
      sized-run d drawn (Hides p) output so = absurd so
      sized-run d drawn (NotText count) output so = absurd so
      sized-run d drawn (Unclosed count) output so = absurd so
      sized-run d drawn (Ragged count fields first) output so = absurd so

      config-run : (end : CsvEnd) (output : List ℕ) → IsConfigRun request columns shown config end output → IsCsvRun request input end output
      config-run end output (Sized d drawn so) = sized-run d drawn end output so
      config-run end output (Faulted e is named fault none) =
          subst (λ x. IsCsvRun request input x output) (sym is) (record { table = table-of shown free cut; refuses = named; fault = Faulty config configured fault }, none)

    settings-run : (end : CsvEnd) (output : List ℕ) → IsSettingsRun request (settings_of request columns rows) (length rows, columns) columns shown end output → IsCsvRun request input end output
    settings-run end output (Configured config configured so) = config-run config configured end output so
    settings-run end output (Crossed e is named unfitted none) = refused-run end output e is named unfitted none

  -- what is written of its rows
  pub csv-run-of : (end : CsvEnd) (output : List ℕ) → IsRowsRun request columns rows end output → IsCsvRun request input end output
  csv-run-of end output (Free shown free cut so) = settings-run shown free cut end output so
  csv-run-of end output (Kept kept none) = kept-run end output kept none
