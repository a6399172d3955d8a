-- A text has one run.
use Rattle.std.proofs.Common.{◌≡◌, ◌⊎◌, ◌∙◌, ◌^◌, ◌<◌, ◌≤◌, ◌++◌, ℕ, List, Option, None, Some, ap, arith, inl, inr, length, refl, reverse, subst, sym}
use Rattle.std.specs.Prelude.{slice_index}
use Rattle.papergrid_values.specs.Compact.{all_sides, spaces}
use Rattle.papergrid_values.specs.declared.direction.Direction.{Direction}
use Rattle.papergrid_values.specs.declared.direction.Direction.TheVariants.{Columns, Rows}
use Rattle.papergrid_values.specs.declared.indent.Indent.{Indent}
use Rattle.papergrid_values.specs.declared.sides.Sides.{Sides}
use Rattle.papergrid_config.specs.ConfigSame.{HoldTheSameSettings}
use Rattle.papergrid_config.specs.Grids.{spanned_grid}
use Rattle.papergrid_config.specs.History.{HasSettingHistory, newest_or}
use Rattle.papergrid_config.specs.Parts.{margins}
use Rattle.papergrid_config.specs.declared.setting.Setting.{Setting}
use Rattle.papergrid_config.specs.declared.spanned.SpannedConfig.{SpannedConfig}
use Rattle.papergrid_tracks.specs.declared.sizing.Sizing.{Sizing}
use Rattle.papergrid_walk.specs.Measures.{text_measure}
use Rattle.papergrid_layout.specs.Answers.{AreBothSizes}
use Rattle.papergrid_layout.specs.Places.{table_by, total_along}
use Rattle.papergrid_layout.proofs.PlaceLaws.{both-fit, sizes-have-room}
use Rattle.papergrid_draw.specs.Drawings.{Drawing, layout_of}
use Rattle.papergrid_draw.specs.Faults.{IsDrawable, whole_height}
use Rattle.papergrid_draw.specs.Lined.{lined}
use Rattle.papergrid_draw.specs.Margins.{whole_width}
use Rattle.papergrid_draw.specs.Pictures.{IsDrawingWith, IsFaultWith, texts_drawing}
use Rattle.papergrid_draw.specs.Tiles.{IsTiled}
use Rattle.papergrid_draw.specs.Crossings.{FitCrossings, IsFitFault}
use Rattle.papergrid_draw.specs.Sinks.{IsRefusal}
use Rattle.papergrid_draw.specs.declared.crossings.Junctions.{Junctions}
use Rattle.papergrid_draw.specs.declared.error.DrawError.{DrawError}
use Rattle.papergrid_draw.proofs.OneFitLemmas.{fit-or-fault, one-fit, one-fit-fault}
use Rattle.papergrid_draw.proofs.OneLemmas.{drawn-or-faulty, one-drawn, one-fault, one-layout}
use Rattle.papergrid_draw.proofs.PictureLemmas.{room-with}
use Rattle.papergrid_csv.specs.Pictures.{AreFitted, Faulty, IsConfigured, IsCsvDrawing, IsCsvRefused, IsCsvRun, IsCsvTable, IsNarrow, IsUnfitted, IsUnpictured, IsWide, Unfitted, table_settings, table_shape}
use Rattle.papergrid_csv.specs.Requests.{settings_of}
use Rattle.papergrid_csv.specs.declared.reading.RowsError.{RowsError}
use Rattle.papergrid_csv.specs.declared.reading.RowsError.TheVariants as errors
use Rattle.papergrid_csv.specs.declared.request.Request.{Request}
use Rattle.papergrid_csv.specs.declared.run.CsvEnd.{CsvEnd}
use Rattle.papergrid_csv.specs.declared.run.CsvEnd.TheVariants.{Drawn, Hides, NoColumn, NotText, Ragged, Refused, TooWide, Unclosed}
use Rattle.papergrid_csv.proofs.OneTextLemmas.{hidden-or-no-column, one-hidden, one-no-column, one-table, one-unread, rows-or-unread, table-or-hidden, table-or-no-column}
use Rattle.papergrid_csv.proofs.PartLemmas.{fitted-none, no-margins}
use Rattle.papergrid_csv.proofs.WideLemmas.{both-fit as both-fit-tracks}

-- ---- the drawing of a text can be drawn

-- totals of sizes that are found fit
totals-fit : (config : SpannedConfig) (columns : ℕ) (texts : List (List (List ℕ))) (sizing : Sizing) (widths heights : List ℕ) → AreBothSizes (spanned_grid config) text_measure columns texts sizing widths heights →
    (direction : Direction) → total_along (layout_of (texts_drawing config texts widths heights)) direction < 2 ^ 64
totals-fit config columns texts sizing widths heights are direction =
    let fit = both-fit-tracks config columns texts sizing widths heights are in
    let high : length heights ≡ length texts = fit.down.one_each in
    let wide : length widths ≡ columns = fit.across.one_each in
    let shape : (length texts, columns) ≡ (length heights, length widths) = λ i. (sym high i, sym wide i) in
    subst (λ shape. total_along (table_by config (slice_index widths) (slice_index heights) shape) direction < 2 ^ 64) shape
    (both-fit (spanned_grid config) text_measure columns texts widths heights (sizes-have-room sizing (spanned_grid config) text_measure columns texts widths heights are) direction)

module _ (request : Request) (input : List ℕ) (d : Drawing) (so : IsCsvDrawing request input d) where
  abbrev it : Drawing
  it = texts_drawing so.config so.table.shown so.drawn.widths so.drawn.heights

  margin : so.config.margin ≡ all_sides (spaces 0)
  margin = so.configured.told.margin
      ∙ ap (λ values. newest_or (all_sides (spaces 0)) (reverse values))
      (no-margins request so.table.columns so.table.rows so.configured.fitted (fitted-none margins (λ _ _. refl) request.junctions (table_settings so.table) (table_shape so.table) so.config so.configured.fitted so.configured.fit))

  fits : (direction : Direction) → total_along (layout_of it) direction < 2 ^ 64
  fits = totals-fit so.config so.table.columns so.table.shown request.sizing so.drawn.widths so.drawn.heights so.drawn.sized

  not-too-large : (2 ^ 64 ≤ whole_width it) ⊎ (2 ^ 64 ≤ whole_height it) → ⊥
  not-too-large (inl wide) =
      let left : so.config.margin.left.size ≡ 0 = ap (λ (m : Sides Indent). m.left.size) margin in
      let right : so.config.margin.right.size ≡ 0 = ap (λ (m : Sides Indent). m.right.size) margin in
      let total = fits Columns in
      omega (arith, left, right, total, wide)
  not-too-large (inr high) =
      let top : so.config.margin.top.size ≡ 0 = ap (λ (m : Sides Indent). m.top.size) margin in
      let bottom : so.config.margin.bottom.size ≡ 0 = ap (λ (m : Sides Indent). m.bottom.size) margin in
      let total = fits Rows in
      omega (arith, top, bottom, total, high)

  pub csv-drawable : IsDrawable d
  csv-drawable = subst IsDrawable (sym so.drawn.is) (record {
    tiled = subst (λ (e : Drawing). IsTiled (layout_of e)) so.drawn.is so.tiled;
    room = room-with so.table.columns so.table.shown request.sizing so.config it (record { widths = so.drawn.widths; heights = so.drawn.heights; sized = so.drawn.sized; is = refl });
    small = λ large. not-too-large large.2;
  })

-- ---- there is one

narrow-or-wide : (greatest : Option ℕ) (m n : ℕ) → m ≡ n → IsNarrow greatest m → IsWide greatest n → ⊥
narrow-or-wide None m n same narrow wide = wide
narrow-or-wide (Some greatest) m n same narrow wide = omega (arith, same, narrow, wide)

-- the end of a run for what keeps a text from its rows
end-of : RowsError → CsvEnd
end-of (errors.NotText count) = NotText count
end-of (errors.Unclosed count) = Unclosed count
end-of (errors.Ragged count fields first) = Ragged count fields first
end-of errors.Memory = Drawn

module _ (request : Request) (input : List ℕ)
    (same-by : (settings : List Setting) (x y : SpannedConfig) → HasSettingHistory settings x → HasSettingHistory settings y → HoldTheSameSettings x y) where
  module _ (t u : IsCsvTable request input) where
    same-table-settings : table_settings t ≡ table_settings u
    same-table-settings = let one = one-table request input t u in λ i. settings_of request (one.columns i) (one.rows i)

    same-shape : table_shape t ≡ table_shape u
    same-shape = let one = one-table request input t u in λ i. (length (one.rows i), one.columns i)

    plain-same : (x y : SpannedConfig) → HasSettingHistory (table_settings t) x → HasSettingHistory (table_settings u) y → HoldTheSameSettings x y
    plain-same x y a b = same-by (table_settings u) x y (subst (λ settings. HasSettingHistory settings x) same-table-settings a) b

    same-fitted : (junctions : Option Junctions) (x y : SpannedConfig) (fitted more : List Setting) → AreFitted junctions (table_settings t) (table_shape t) x fitted →
        AreFitted junctions (table_settings u) (table_shape u) y more → fitted ≡ more
    same-fitted None x y fitted more a b = a ∙ sym b
    same-fitted (Some junctions) x y fitted more a b =
        one-fit a.0 b.0 (table_shape u) (plain-same a.0 b.0 a.1 b.1) junctions fitted more (subst (λ shape. FitCrossings a.0 shape junctions fitted) same-shape a.2) b.2

    fitted-or-not : (junctions : Option Junctions) (x : SpannedConfig) (fitted : List Setting) (e : DrawError) → IsRefusal e → AreFitted junctions (table_settings t) (table_shape t) x fitted →
        IsUnfitted junctions (table_settings u) (table_shape u) e → ⊥
    fitted-or-not None x fitted e named a b = b
    fitted-or-not (Some junctions) x fitted e named a b =
        fit-or-fault a.0 b.0 (table_shape u) (plain-same a.0 b.0 a.1 b.1) junctions fitted e named (subst (λ shape. FitCrossings a.0 shape junctions fitted) same-shape a.2) b.2

    one-unfitted : (junctions : Option Junctions) (e f : DrawError) → IsRefusal e → IsRefusal f → IsUnfitted junctions (table_settings t) (table_shape t) e →
        IsUnfitted junctions (table_settings u) (table_shape u) f → e ≡ f
    one-unfitted None e f named other a b = absurd a
    one-unfitted (Some junctions) e f named other a b =
        one-fit-fault a.0 b.0 (table_shape u) (plain-same a.0 b.0 a.1 b.1) e f named other (subst (λ shape. IsFitFault a.0 shape e) same-shape a.2) b.2

    same-configs : (x y : SpannedConfig) → IsConfigured request (table_settings t) (table_shape t) x → IsConfigured request (table_settings u) (table_shape u) y → HoldTheSameSettings x y
    same-configs x y a b =
        let settings : table_settings t ++ a.fitted ≡ table_settings u ++ b.fitted =
        λ i. same-table-settings i ++ same-fitted request.junctions x y a.fitted b.fitted a.fit b.fit i in
        same-by (table_settings u ++ b.fitted) x y (subst (λ list. HasSettingHistory list x) settings a.told) b.told

    moved-drawing : (config : SpannedConfig) (d : Drawing) → IsDrawingWith t.columns t.shown request.sizing config d → IsDrawingWith u.columns u.shown request.sizing config d
    moved-drawing config d is =
        let one = one-table request input t u in
        subst (λ n. IsDrawingWith n u.shown request.sizing config d) one.columns (subst (λ shown. IsDrawingWith t.columns shown request.sizing config d) one.shown is)

    moved-fault : (config : SpannedConfig) (e : DrawError) → IsFaultWith t.columns t.shown request.sizing config e → IsFaultWith u.columns u.shown request.sizing config e
    moved-fault config e is =
        let one = one-table request input t u in
        subst (λ n. IsFaultWith n u.shown request.sizing config e) one.columns (subst (λ shown. IsFaultWith t.columns shown request.sizing config e) one.shown is)

  one-drawing : (d e : Drawing) → IsCsvDrawing request input d → IsCsvDrawing request input e → (lined d ≡ lined e) × (total_along (layout_of d) Columns ≡ total_along (layout_of e) Columns)
  one-drawing d e a b =
      let same = same-configs a.table b.table a.config b.config a.configured b.configured in
      let drawn = moved-drawing a.table b.table a.config d a.drawn in (
        (one-drawn b.table.columns b.table.shown request.sizing a.config b.config same d e drawn b.drawn).1,
        ap (λ table. total_along table Columns) (one-layout b.table.columns b.table.shown request.sizing a.config b.config same d e drawn b.drawn),
      )

  drawn-or-refused : (d : Drawing) (e : DrawError) → IsCsvDrawing request input d → IsCsvRefused request input e → ⊥
  drawn-or-refused d e a b = by b.fault
    where
      by : IsUnpictured request (table_settings b.table) (table_shape b.table) b.table.columns b.table.shown e → ⊥
      by (Unfitted none) = fitted-or-not a.table b.table request.junctions a.config a.configured.fitted e b.refuses a.configured.fit none
      by (Faulty config configured fault) =
          drawn-or-faulty b.table.columns b.table.shown request.sizing a.config config (same-configs a.table b.table a.config config a.configured configured) d e
          (moved-drawing a.table b.table a.config d a.drawn) (csv-drawable request input d a) b.refuses fault

  one-refused : (e f : DrawError) → IsCsvRefused request input e → IsCsvRefused request input f → e ≡ f
  one-refused e f a b = by a.fault b.fault
    where
      by : IsUnpictured request (table_settings a.table) (table_shape a.table) a.table.columns a.table.shown e →
          IsUnpictured request (table_settings b.table) (table_shape b.table) b.table.columns b.table.shown f → e ≡ f
      by (Unfitted none) (Unfitted why) = one-unfitted a.table b.table request.junctions e f a.refuses b.refuses none why
      by (Unfitted none) (Faulty y second why) = absurd (fitted-or-not b.table a.table request.junctions y second.fitted e a.refuses second.fit none)
      by (Faulty x first fault) (Unfitted none) = absurd (fitted-or-not a.table b.table request.junctions x first.fitted f b.refuses first.fit none)
      by (Faulty x first fault) (Faulty y second why) =
          one-fault b.table.columns b.table.shown request.sizing x y (same-configs a.table b.table x y first second) e f a.refuses b.refuses (moved-fault a.table b.table x e fault) why

  pub one-run : (end other : CsvEnd) (output bytes : List ℕ) → IsCsvRun request input end output → IsCsvRun request input other bytes → (end ≡ other) × (output ≡ bytes)
  unfolding end-of
  one-run Drawn Drawn output bytes a b = let same = one-drawing a.0 b.0 a.1 b.1 in (refl, a.3 ∙ same.0 ∙ sym b.3)
  one-run Drawn (Refused f) output bytes a b = absurd (drawn-or-refused a.0 f a.1 b.0)
  one-run Drawn (TooWide v) output bytes a b = absurd (narrow-or-wide request.max_width (total_along (layout_of a.0) Columns) v ((one-drawing a.0 b.0.0 a.1 b.0.1).1 ∙ sym b.0.2) a.2 b.0.3)
  one-run Drawn (Hides q) output bytes a b = absurd (table-or-hidden request input a.1.table q b.0)
  one-run Drawn (NoColumn k) output bytes a b = absurd (table-or-no-column request input a.1.table k b.0)
  one-run Drawn (NotText d) output bytes a b = absurd (rows-or-unread request.reading input a.1.table.columns a.1.table.rows (errors.NotText d) (λ is. cc is) a.1.table.are b.0)
  one-run Drawn (Unclosed d) output bytes a b = absurd (rows-or-unread request.reading input a.1.table.columns a.1.table.rows (errors.Unclosed d) (λ is. cc is) a.1.table.are b.0)
  one-run Drawn (Ragged d o y) output bytes a b = absurd (rows-or-unread request.reading input a.1.table.columns a.1.table.rows (errors.Ragged d o y) (λ is. cc is) a.1.table.are b.0)
  one-run (Refused e) Drawn output bytes a b = absurd (drawn-or-refused b.0 e b.1 a.0)
  one-run (Refused e) (Refused f) output bytes a b = (ap Refused (one-refused e f a.0 b.0), a.1 ∙ sym b.1)
  one-run (Refused e) (TooWide v) output bytes a b = absurd (drawn-or-refused b.0.0 e b.0.1 a.0)
  one-run (Refused e) (Hides q) output bytes a b = absurd (table-or-hidden request input a.0.table q b.0)
  one-run (Refused e) (NoColumn k) output bytes a b = absurd (table-or-no-column request input a.0.table k b.0)
  one-run (Refused e) (NotText d) output bytes a b = absurd (rows-or-unread request.reading input a.0.table.columns a.0.table.rows (errors.NotText d) (λ is. cc is) a.0.table.are b.0)
  one-run (Refused e) (Unclosed d) output bytes a b = absurd (rows-or-unread request.reading input a.0.table.columns a.0.table.rows (errors.Unclosed d) (λ is. cc is) a.0.table.are b.0)
  one-run (Refused e) (Ragged d o y) output bytes a b = absurd (rows-or-unread request.reading input a.0.table.columns a.0.table.rows (errors.Ragged d o y) (λ is. cc is) a.0.table.are b.0)
  one-run (TooWide w) Drawn output bytes a b = absurd (narrow-or-wide request.max_width (total_along (layout_of b.0) Columns) w ((one-drawing b.0 a.0.0 b.1 a.0.1).1 ∙ sym a.0.2) b.2 a.0.3)
  one-run (TooWide w) (Refused f) output bytes a b = absurd (drawn-or-refused a.0.0 f a.0.1 b.0)
  one-run (TooWide w) (TooWide v) output bytes a b = (ap TooWide (a.0.2 ∙ (one-drawing a.0.0 b.0.0 a.0.1 b.0.1).1 ∙ sym b.0.2), a.1 ∙ sym b.1)
  one-run (TooWide w) (Hides q) output bytes a b = absurd (table-or-hidden request input a.0.1.table q b.0)
  one-run (TooWide w) (NoColumn k) output bytes a b = absurd (table-or-no-column request input a.0.1.table k b.0)
  one-run (TooWide w) (NotText d) output bytes a b = absurd (rows-or-unread request.reading input a.0.1.table.columns a.0.1.table.rows (errors.NotText d) (λ is. cc is) a.0.1.table.are b.0)
  one-run (TooWide w) (Unclosed d) output bytes a b = absurd (rows-or-unread request.reading input a.0.1.table.columns a.0.1.table.rows (errors.Unclosed d) (λ is. cc is) a.0.1.table.are b.0)
  one-run (TooWide w) (Ragged d o y) output bytes a b = absurd (rows-or-unread request.reading input a.0.1.table.columns a.0.1.table.rows (errors.Ragged d o y) (λ is. cc is) a.0.1.table.are b.0)
  one-run (Hides p) Drawn output bytes a b = absurd (table-or-hidden request input b.1.table p a.0)
  one-run (Hides p) (Refused f) output bytes a b = absurd (table-or-hidden request input b.0.table p a.0)
  one-run (Hides p) (TooWide v) output bytes a b = absurd (table-or-hidden request input b.0.1.table p a.0)
  one-run (Hides p) (Hides q) output bytes a b = (ap Hides (one-hidden request input p q a.0 b.0), a.1 ∙ sym b.1)
  one-run (Hides p) (NoColumn k) output bytes a b = absurd (hidden-or-no-column request input p k a.0 b.0)
  one-run (Hides p) (NotText d) output bytes a b = absurd (rows-or-unread request.reading input a.0.columns a.0.rows (errors.NotText d) (λ is. cc is) a.0.are b.0)
  one-run (Hides p) (Unclosed d) output bytes a b = absurd (rows-or-unread request.reading input a.0.columns a.0.rows (errors.Unclosed d) (λ is. cc is) a.0.are b.0)
  one-run (Hides p) (Ragged d o y) output bytes a b = absurd (rows-or-unread request.reading input a.0.columns a.0.rows (errors.Ragged d o y) (λ is. cc is) a.0.are b.0)
  one-run (NoColumn n) Drawn output bytes a b = absurd (table-or-no-column request input b.1.table n a.0)
  one-run (NoColumn n) (Refused f) output bytes a b = absurd (table-or-no-column request input b.0.table n a.0)
  one-run (NoColumn n) (TooWide v) output bytes a b = absurd (table-or-no-column request input b.0.1.table n a.0)
  one-run (NoColumn n) (Hides q) output bytes a b = absurd (hidden-or-no-column request input q n b.0 a.0)
  one-run (NoColumn n) (NoColumn k) output bytes a b = (ap NoColumn (one-no-column request input n k a.0 b.0), a.1 ∙ sym b.1)
  one-run (NoColumn n) (NotText d) output bytes a b = absurd (rows-or-unread request.reading input a.0.columns a.0.rows (errors.NotText d) (λ is. cc is) a.0.are b.0)
  one-run (NoColumn n) (Unclosed d) output bytes a b = absurd (rows-or-unread request.reading input a.0.columns a.0.rows (errors.Unclosed d) (λ is. cc is) a.0.are b.0)
  one-run (NoColumn n) (Ragged d o y) output bytes a b = absurd (rows-or-unread request.reading input a.0.columns a.0.rows (errors.Ragged d o y) (λ is. cc is) a.0.are b.0)
  one-run (NotText c) Drawn output bytes a b = absurd (rows-or-unread request.reading input b.1.table.columns b.1.table.rows (errors.NotText c) (λ is. cc is) b.1.table.are a.0)
  one-run (NotText c) (Refused f) output bytes a b = absurd (rows-or-unread request.reading input b.0.table.columns b.0.table.rows (errors.NotText c) (λ is. cc is) b.0.table.are a.0)
  one-run (NotText c) (TooWide v) output bytes a b = absurd (rows-or-unread request.reading input b.0.1.table.columns b.0.1.table.rows (errors.NotText c) (λ is. cc is) b.0.1.table.are a.0)
  one-run (NotText c) (Hides q) output bytes a b = absurd (rows-or-unread request.reading input b.0.columns b.0.rows (errors.NotText c) (λ is. cc is) b.0.are a.0)
  one-run (NotText c) (NoColumn k) output bytes a b = absurd (rows-or-unread request.reading input b.0.columns b.0.rows (errors.NotText c) (λ is. cc is) b.0.are a.0)
  one-run (NotText c) (NotText d) output bytes a b = (ap end-of (one-unread request.reading input (errors.NotText c) (errors.NotText d) (λ is. cc is) (λ is. cc is) a.0 b.0), a.1 ∙ sym b.1)
  one-run (NotText c) (Unclosed d) output bytes a b = (ap end-of (one-unread request.reading input (errors.NotText c) (errors.Unclosed d) (λ is. cc is) (λ is. cc is) a.0 b.0), a.1 ∙ sym b.1)
  one-run (NotText c) (Ragged d o y) output bytes a b = (ap end-of (one-unread request.reading input (errors.NotText c) (errors.Ragged d o y) (λ is. cc is) (λ is. cc is) a.0 b.0), a.1 ∙ sym b.1)
  one-run (Unclosed c) Drawn output bytes a b = absurd (rows-or-unread request.reading input b.1.table.columns b.1.table.rows (errors.Unclosed c) (λ is. cc is) b.1.table.are a.0)
  one-run (Unclosed c) (Refused f) output bytes a b = absurd (rows-or-unread request.reading input b.0.table.columns b.0.table.rows (errors.Unclosed c) (λ is. cc is) b.0.table.are a.0)
  one-run (Unclosed c) (TooWide v) output bytes a b = absurd (rows-or-unread request.reading input b.0.1.table.columns b.0.1.table.rows (errors.Unclosed c) (λ is. cc is) b.0.1.table.are a.0)
  one-run (Unclosed c) (Hides q) output bytes a b = absurd (rows-or-unread request.reading input b.0.columns b.0.rows (errors.Unclosed c) (λ is. cc is) b.0.are a.0)
  one-run (Unclosed c) (NoColumn k) output bytes a b = absurd (rows-or-unread request.reading input b.0.columns b.0.rows (errors.Unclosed c) (λ is. cc is) b.0.are a.0)
  one-run (Unclosed c) (NotText d) output bytes a b = (ap end-of (one-unread request.reading input (errors.Unclosed c) (errors.NotText d) (λ is. cc is) (λ is. cc is) a.0 b.0), a.1 ∙ sym b.1)
  one-run (Unclosed c) (Unclosed d) output bytes a b = (ap end-of (one-unread request.reading input (errors.Unclosed c) (errors.Unclosed d) (λ is. cc is) (λ is. cc is) a.0 b.0), a.1 ∙ sym b.1)
  one-run (Unclosed c) (Ragged d o y) output bytes a b = (ap end-of (one-unread request.reading input (errors.Unclosed c) (errors.Ragged d o y) (λ is. cc is) (λ is. cc is) a.0 b.0), a.1 ∙ sym b.1)
  one-run (Ragged c m x) Drawn output bytes a b = absurd (rows-or-unread request.reading input b.1.table.columns b.1.table.rows (errors.Ragged c m x) (λ is. cc is) b.1.table.are a.0)
  one-run (Ragged c m x) (Refused f) output bytes a b = absurd (rows-or-unread request.reading input b.0.table.columns b.0.table.rows (errors.Ragged c m x) (λ is. cc is) b.0.table.are a.0)
  one-run (Ragged c m x) (TooWide v) output bytes a b = absurd (rows-or-unread request.reading input b.0.1.table.columns b.0.1.table.rows (errors.Ragged c m x) (λ is. cc is) b.0.1.table.are a.0)
  one-run (Ragged c m x) (Hides q) output bytes a b = absurd (rows-or-unread request.reading input b.0.columns b.0.rows (errors.Ragged c m x) (λ is. cc is) b.0.are a.0)
  one-run (Ragged c m x) (NoColumn k) output bytes a b = absurd (rows-or-unread request.reading input b.0.columns b.0.rows (errors.Ragged c m x) (λ is. cc is) b.0.are a.0)
  one-run (Ragged c m x) (NotText d) output bytes a b = (ap end-of (one-unread request.reading input (errors.Ragged c m x) (errors.NotText d) (λ is. cc is) (λ is. cc is) a.0 b.0), a.1 ∙ sym b.1)
  one-run (Ragged c m x) (Unclosed d) output bytes a b = (ap end-of (one-unread request.reading input (errors.Ragged c m x) (errors.Unclosed d) (λ is. cc is) (λ is. cc is) a.0 b.0), a.1 ∙ sym b.1)
  one-run (Ragged c m x) (Ragged d o y) output bytes a b = (ap end-of (one-unread request.reading input (errors.Ragged c m x) (errors.Ragged d o y) (λ is. cc is) (λ is. cc is) a.0 b.0), a.1 ∙ sym b.1)
