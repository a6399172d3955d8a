-- Each line of the picture of a CSV text is as wide as its table.
use Rattle.std.proofs.Common.{◌≡◌, ◌∙◌, ◌⊎◌, ◌<◌, ◌++◌, ℕ, true, List, [], All, Option, None, Some, ap, append-nil, inl, inr, length, refl, subst, sym}
use Rattle.std.specs.Prelude.{IsSome, IsUtf8, flat_map}
use Rattle.std.specs.List.{list_all}
use Rattle.std.proofs.lemmas.List.Folds.{list_all-append}
use Rattle.papergrid_values.specs.declared.direction.Direction.TheVariants.{Columns, Rows}
use Rattle.papergrid_values.specs.declared.position.Position.{Position}
use Rattle.papergrid_text.specs.Text.{width_of}
use Rattle.papergrid_tracks.specs.Fits.{Fits}
use Rattle.papergrid_walk.specs.Cells.{problem_of}
use Rattle.papergrid_config.specs.Grids.{spanned_grid}
use Rattle.papergrid_config.specs.Parts.{character_calls, padding_calls}
use Rattle.papergrid_tables.proofs.MadeTables.{border_history}
use Rattle.papergrid_config.specs.declared.setting.Setting.{Setting}
use Rattle.papergrid_config.specs.declared.spanned.SpannedConfig.{SpannedConfig}
use Rattle.papergrid_layout.specs.Laws.{IsCellAt}
use Rattle.papergrid_layout.specs.Places.{total_along}
use Rattle.papergrid_tracks.specs.declared.sizing.Sizing.{Sizing}
use Rattle.papergrid_draw.specs.Drawings.{Drawing, layout_of}
use Rattle.papergrid_draw.specs.Drawn.{drawn_lines, draws_vertical}
use Rattle.papergrid_draw.specs.Laws.{pieces_of}
use Rattle.papergrid_draw.specs.Separated.{AreApart, setting_separates, pieces_text}
use Rattle.papergrid_draw.specs.Tiles.{IsTiled}
use Rattle.papergrid_draw.proofs.HonestLemmas.{texts-honest}
use Rattle.papergrid_draw.proofs.SettingLemmas.{with-separators}
use Rattle.papergrid_draw.proofs.WidthLemmas.{lines-wide}
use Rattle.papergrid_draw.specs.declared.crossings.Junctions.{Junctions}
use Rattle.papergrid_walk.specs.Measures.{text_measure}
use Rattle.papergrid_maps.proofs.StoredMapLemmas.{stored_effective}
use Rattle.papergrid_config.specs.History.{HasSettingHistory}
use Rattle.papergrid_draw.specs.Pictures.{texts_drawing}
use Rattle.papergrid_draw.proofs.PictureLemmas.{lines-of-rows, room-with}
use Rattle.papergrid_csv.specs.Pictures.{AreFitted, IsCsvDrawing, table_settings, table_shape}
use Rattle.papergrid_csv.specs.Requests.{IsSeparating, settings_of}
use Rattle.papergrid_csv.specs.declared.request.Request.{Request}
use Rattle.papergrid_csv.proofs.CutTextLemmas.{shown-length, shown-utf8}
use Rattle.papergrid_csv.proofs.PartLemmas.{fitted-none, frame-of, padding-of}
use Rattle.papergrid_csv.proofs.RowLemmas.{all-utf8}
use Rattle.papergrid_csv.proofs.SeparatingLemmas.{fitted-separate, settings-separate}
use Rattle.papergrid_csv.proofs.TableLemmas.{line-between}
use Rattle.papergrid_layout.specs.Answers.{AreBothSizes}

-- sizes that are chosen by either way fit
pub record FitBoth (config : SpannedConfig) (columns : ℕ) (rows : List (List (List ℕ))) (widths heights : List ℕ) : Type 0 where
  pub across : Fits (problem_of (spanned_grid config) text_measure columns rows Columns) widths
  pub down : Fits (problem_of (spanned_grid config) text_measure columns rows Rows) heights

pub both-fit : (config : SpannedConfig) (columns : ℕ) (rows : List (List (List ℕ))) (sizing : Sizing) (widths heights : List ℕ) →
    AreBothSizes (spanned_grid config) text_measure columns rows sizing widths heights → FitBoth config columns rows widths heights
both-fit config columns rows sizing widths heights are = record { across = are.widths.fits; down = are.heights.fits }

-- fields at positions are texts where all are
at-position : (rows : List (List (List ℕ))) → All (All IsUtf8) rows → (p : Position) (cell : List ℕ) → IsCellAt rows p cell → IsUtf8 cell
at-position rows all p cell is = subst IsUtf8 is.1.1 (all p.row [] is.0 p.col cell is.1.0)

-- a vertical line of the frame stands between columns, whatever crossings were fitted
vertical-stays : (request : Request) (columns : ℕ) (rows : List (List (List ℕ))) (junctions : Option Junctions) (shape : ℕ × ℕ) (config : SpannedConfig) (fitted : List Setting) →
    AreFitted junctions (settings_of request columns rows) shape config fitted → HasSettingHistory (settings_of request columns rows ++ fitted) config → IsSome request.frame.vertical →
    (shown : List (List (List ℕ))) (widths heights : List ℕ) → (length heights, length widths) ≡ shape → (j : ℕ) → 0 < j → j < length widths → draws_vertical (texts_drawing config shown widths heights) j ≡ true
vertical-stays request columns rows None shape config fitted are told some shown widths heights counted j above below =
    let plain : HasSettingHistory (settings_of request columns rows) config =
    subst (λ s. HasSettingHistory s config) (ap (λ l. settings_of request columns rows ++ l) are ∙ append-nil (settings_of request columns rows)) told in
    line-between config.characters request.frame j (length widths) (ap (λ c. c.frame) (border_history (flat_map character_calls (settings_of request columns rows)) config.characters plain.characters) ∙ frame-of request columns rows) some above below
vertical-stays request columns rows (Some junctions) shape config fitted are told some shown widths heights counted j above below =
    let (plain, configured, fit, becomes) = are in
    let same = fit.lines config becomes (texts_drawing plain shown widths heights) (texts_drawing config shown widths heights) refl refl counted counted j in
    same.0 ∙ line-between plain.characters request.frame j (length widths) (ap (λ c. c.frame) (border_history (flat_map character_calls (settings_of request columns rows)) plain.characters configured.characters) ∙ frame-of request columns rows) some above below

module _ (request : Request) (input : List ℕ) (d : Drawing) (so : IsCsvDrawing request input d) where
  abbrev settings : List Setting
  settings = table_settings so.table

  abbrev fitted : List Setting
  fitted = so.configured.fitted

  abbrev it : Drawing
  it = texts_drawing so.config so.table.shown so.drawn.widths so.drawn.heights

  counted : (length so.drawn.heights, length so.drawn.widths) ≡ table_shape so.table
  counted =
      let fit = both-fit so.config so.table.columns so.table.shown request.sizing so.drawn.widths so.drawn.heights so.drawn.sized in
      let high : length so.drawn.heights ≡ length so.table.rows = fit.down.one_each ∙ shown-length request.cut so.table.rows so.table.shown so.table.cut in
      ap (λ n. (n, length so.drawn.widths)) high ∙ ap (λ n. (length so.table.rows, n)) fit.across.one_each

  apart : (IsSome request.frame.vertical) ⊎ (0 < request.padding.left.size) → AreApart it
  apart (inl some) = inl (λ p is above.
      inl (vertical-stays request so.table.columns so.table.rows request.junctions (table_shape so.table) so.config fitted so.configured.fit so.configured.told some so.table.shown so.drawn.widths so.drawn.heights counted
      p.col above is.col_in))
  apart (inr padded) = inl (λ p is above.
      inr (subst (λ n. 0 < n) (sym (ap (λ s. s.left.size) (stored_effective _ _ _ so.configured.told.padding p
      ∙ padding-of request so.table.columns so.table.rows fitted (fitted-none padding_calls (λ _ _. refl) request.junctions settings (table_shape so.table) so.config fitted so.configured.fit) p))) padded))

  pub csv-wide : IsSeparating request → (IsSome request.frame.vertical) ⊎ (0 < request.padding.left.size) →
      All (λ line. width_of (pieces_text (pieces_of line)) ≡ total_along (layout_of d) Columns) (drawn_lines d)
  csv-wide separating stands =
      let told = settings-separate request separating so.table.columns so.table.rows in
      let crossed = fitted-separate request.junctions settings (table_shape so.table) so.config fitted separating.fitting so.configured.fit in
      let all : list_all setting_separates (settings ++ fitted) ≡ true = list_all-append setting_separates settings fitted ∙ rw (told, crossed) refl in
      let utf8 = at-position so.table.shown (shown-utf8 request.cut so.table.rows so.table.shown (all-utf8 request.reading input so.table.columns so.table.rows so.table.are) so.table.cut) in
      let tiled : IsTiled (layout_of it) = subst (λ (e : Drawing). IsTiled (layout_of e)) so.drawn.is so.tiled in
      subst (λ (e : Drawing). All (λ line. width_of (pieces_text (pieces_of line)) ≡ total_along (layout_of e) Columns) (drawn_lines e)) (sym so.drawn.is)
      (lines-wide it tiled
      (texts-honest it (λ text. text) so.table.shown (λ p _. lines-of-rows so.table.shown p) utf8)
      (with-separators it (settings ++ fitted) so.configured.told all)
      (apart stands)
      (room-with so.table.columns so.table.shown request.sizing so.config it (record { widths = so.drawn.widths; heights = so.drawn.heights; sized = so.drawn.sized; is = refl })))
