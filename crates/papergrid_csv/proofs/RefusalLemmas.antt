-- The table of a CSV text is refused only where it is too large.
use Rattle.std.proofs.Common.{◌≡◌, ◌∙◌, ◌+◌, ◌<◌, ◌≤◌, ◌++◌, ℕ, Bool, false, List, [], ◌∷◌, All, Option, None, Some, ap, append-nil, arith, flat_map, length, refl, subst, sym}
use Rattle.std.specs.Prelude.{◌||◌, nat_lt}
use Rattle.std.specs.List.{find}
use Rattle.std.proofs.lemmas.Grind.{flat_map-append}
use Rattle.std.proofs.lemmas.Bool.Decides.{nat_tests}
use Rattle.std.proofs.lemmas.List.Elements.{All-append, All-cons, All-filter, All-head, All-map, All-nil, All-tail}
use Rattle.papergrid_values.specs.declared.direction.Direction.TheVariants.{Columns, Rows}
use Rattle.papergrid_values.specs.declared.position.Position.{Position}
use Rattle.papergrid_maps.specs.Grids.{Grid}
use Rattle.papergrid_tracks.specs.declared.error.LayoutError.{LayoutError}
use Rattle.papergrid_tracks.specs.declared.error.LayoutError.TheVariants as layout_errors
use Rattle.papergrid_walk.specs.Cells.{placed_from, placed_row, positioned_cells, visible_cells}
use Rattle.papergrid_config.specs.Parts.{span_calls}
use Rattle.papergrid_config.specs.Grids.{spanned_grid}
use Rattle.papergrid_config.specs.declared.spanned.SpannedConfig.{SpannedConfig}
use Rattle.papergrid_layout.specs.Answers.{IsBothRefused, first_out_of_table, overflows}
use Rattle.papergrid_tracks.specs.declared.sizing.Sizing.{Sizing}
use Rattle.papergrid_tracks.specs.declared.sizing.Sizing.TheVariants.{ByShares, Least}
use Rattle.papergrid_draw.specs.Drawings.{Drawing, layout_of}
use Rattle.papergrid_draw.specs.Errors.{draw_error_of}
use Rattle.papergrid_draw.specs.Faults.{AllHaveRoom, IsDrawFault}
use Rattle.papergrid_draw.specs.Tiles.{IsTiled}
use Rattle.papergrid_draw.specs.declared.error.DrawError.{DrawError}
use Rattle.papergrid_draw.specs.declared.error.DrawError.TheVariants as draw_errors
use Rattle.papergrid_draw.specs.Crossings.{IsFitFault, bare_drawing}
use Rattle.papergrid_draw.specs.declared.crossings.Junctions.{Junctions}
use Rattle.papergrid_walk.specs.Measures.{text_measure}
use Rattle.papergrid_draw.specs.Sinks.{IsRefusal}
use Rattle.papergrid_draw.specs.Pictures.{IsFaultWith, Undrawn, Unsized, texts_drawing}
use Rattle.papergrid_csv.specs.Pictures.{Faulty, IsCsvRefused, IsUnfitted, IsUnpictured, Unfitted}
use Rattle.papergrid_csv.specs.Requests.{settings_of}
use Rattle.papergrid_csv.specs.declared.request.Request.{Request}
use Rattle.papergrid_csv.proofs.CutTextLemmas.{shown-full}
use Rattle.papergrid_csv.proofs.PartLemmas.{fitted-none, no-spans}
use Rattle.papergrid_csv.proofs.RowLemmas.{rows-full}
use Rattle.papergrid_csv.proofs.TableLemmas.{HasNoSpans, none-spanned, tiled}
use Rattle.papergrid_draw.proofs.PictureLemmas.{room-with}

-- ---- no cell overflows the table

find-none : (test : Position → Bool) (ps : List Position) → All (λ p. test p ≡ false) ps → find test ps ≡ None
find-none test [] all = refl
find-none test (p ∷ ps) all =
    let first = All-head (λ p. test p ≡ false) p ps all in
    rw first (find-none test ps (All-tail (λ p. test p ≡ false) p ps all))

module _ (grid : Grid) (spans : HasNoSpans grid) (columns : ℕ) (texts : List (List (List ℕ))) where
  abbrev IsInside : Position × List ℕ → Type 0
  IsInside cell = overflows grid text_measure columns texts cell.0 ≡ false

  inside : (p : Position) → p.col < columns → p.row < length texts → overflows grid text_measure columns texts p ≡ false
  inside p across down =
      let one = spans.single Columns p in
      let two = spans.single Rows p in
      rw (one, two) (tests (p.col + 1) (p.row + 1) columns (length texts) (omega arith) (omega arith))
    where
      tests : (a b m n : ℕ) → a ≤ m → b ≤ n → (nat_lt m a || nat_lt n b) ≡ false
      tests a b m n h k = grind (arith, nat_tests)

  row-inside : (r c : ℕ) (row : List (List ℕ)) → c + length row ≤ columns → r < length texts → All IsInside (placed_row r c row)
  row-inside r c [] fits below = All-nil IsInside
  row-inside r c (cell ∷ cells) fits below =
      All-cons IsInside (record { row = r; col = c }, cell) (placed_row r (c + 1) cells) (inside (record { row = r; col = c }) (omega arith) below) (row-inside r (c + 1) cells (omega arith) below)

  rows-inside : (r : ℕ) (rows : List (List (List ℕ))) → All (λ row. length row ≡ columns) rows → r + length rows ≤ length texts → All IsInside (placed_from r rows)
  rows-inside r [] full fits = All-nil IsInside
  rows-inside r (row ∷ rows) full fits =
      let one : length row ≡ columns = All-head (λ row. length row ≡ columns) row rows full in
      All-append IsInside (placed_row r 0 row) (placed_from (r + 1) rows) (row-inside r 0 row (omega arith) (omega arith))
      (rows-inside (r + 1) rows (All-tail (λ row. length row ≡ columns) row rows full) (omega arith))

  pub none-out : All (λ row. length row ≡ columns) texts → first_out_of_table grid text_measure columns texts ≡ None
  none-out full =
      find-none (overflows grid text_measure columns texts) _
      (All-map (λ p. overflows grid text_measure columns texts p ≡ false) (λ (cell : Position × List ℕ). cell.0) (visible_cells grid texts)
      (All-filter (λ (cell : Position × List ℕ). grid.shows cell.0) IsInside (positioned_cells texts) (rows-inside 0 texts full (omega arith))))

-- ---- why it is refused

no-overflow : (config : SpannedConfig) (columns : ℕ) (rows : List (List (List ℕ))) (sizing : Sizing) (p : Position) → first_out_of_table (spanned_grid config) text_measure columns rows ≡ None →
    IsBothRefused (spanned_grid config) text_measure columns rows sizing (layout_errors.OutOfTable p) → ⊥
no-overflow config columns rows ByShares p none out = cc
no-overflow config columns rows Least p none out = cc

undrawn-large : (d : Drawing) → IsTiled (layout_of d) → AllHaveRoom d → (e : DrawError) → IsDrawFault d e → IsRefusal e → e ≡ draw_errors.TooLarge
undrawn-large d tiled room (draw_errors.OutOfTable p) fault named = absurd (tiled.within p fault.it)
undrawn-large d tiled room (draw_errors.NotTiled p) fault named = absurd (fault.1.it.1 (tiled.once p fault.1.it.0))
undrawn-large d tiled room (draw_errors.NoRoom p) fault named = absurd (room p fault.1.it)
undrawn-large d tiled room draw_errors.TooLarge fault named = refl
undrawn-large d tiled room (draw_errors.Memory error) fault named = absurd named
undrawn-large d tiled room draw_errors.Write fault named = absurd named

-- the spans do not keep a table from having crossings that fit
unfitted-large : (plain : SpannedConfig) (shape : ℕ × ℕ) → HasNoSpans (spanned_grid plain) → (e : DrawError) → IsFitFault plain shape e → IsRefusal e → e ≡ draw_errors.TooLarge
unfitted-large plain shape spans (draw_errors.OutOfTable p) fault named = absurd ((tiled (layout_of (bare_drawing plain shape)) spans).within p fault.it)
unfitted-large plain shape spans (draw_errors.NotTiled p) fault named = absurd (fault.1.it.1 ((tiled (layout_of (bare_drawing plain shape)) spans).once p fault.1.it.0))
unfitted-large plain shape spans (draw_errors.NoRoom p) fault named = absurd fault
unfitted-large plain shape spans draw_errors.TooLarge fault named = refl
unfitted-large plain shape spans (draw_errors.Memory error) fault named = absurd named
unfitted-large plain shape spans draw_errors.Write fault named = absurd fault

module _ (request : Request) (empty : request.spans.items ≡ []) (columns : ℕ) (rows shown : List (List (List ℕ))) (full : All (λ row. length row ≡ columns) shown) where
  unsized-large : (config : SpannedConfig) → HasNoSpans (spanned_grid config) → (e : DrawError) → IsRefusal e → (error : LayoutError) → e ≡ draw_error_of error →
      IsBothRefused (spanned_grid config) text_measure columns shown request.sizing error → e ≡ draw_errors.TooLarge
  unsized-large config spans e named (layout_errors.OutOfTable p) is none =
      absurd (no-overflow config columns shown request.sizing p (none-out (spanned_grid config) spans columns shown full) none)
  unsized-large config spans e named layout_errors.TooLarge is none = is
  unsized-large config spans e named (layout_errors.Memory error) is none = absurd (subst IsRefusal is named)

  faulty-large : (config : SpannedConfig) → HasNoSpans (spanned_grid config) → (e : DrawError) → IsRefusal e → IsFaultWith columns shown request.sizing config e → e ≡ draw_errors.TooLarge
  faulty-large config spans e named (Unsized error is none) = unsized-large config spans e named error is none
  faulty-large config spans e named (Undrawn d drawn why) =
      undrawn-large d
      (subst (λ (x : Drawing). IsTiled (layout_of x)) (sym drawn.is) (tiled (layout_of (texts_drawing config shown drawn.widths drawn.heights)) spans))
      (room-with columns shown request.sizing config d drawn) e why named

  unfitted-so : (junctions : Option Junctions) (shape : ℕ × ℕ) (e : DrawError) → IsRefusal e → IsUnfitted junctions (settings_of request columns rows) shape e → e ≡ draw_errors.TooLarge
  unfitted-so None shape e named is = absurd is
  unfitted-so (Some junctions) shape e named is =
      unfitted-large is.0 shape (none-spanned (settings_of request columns rows) is.0 (no-spans request columns rows empty) is.1) e is.2 named

  fault-large : (shape : ℕ × ℕ) (e : DrawError) → IsRefusal e → IsUnpictured request (settings_of request columns rows) shape columns shown e → e ≡ draw_errors.TooLarge
  fault-large shape e named (Unfitted is) = unfitted-so request.junctions shape e named is
  fault-large shape e named (Faulty config configured fault) =
      let settings = settings_of request columns rows in
      let none : flat_map span_calls (settings ++ configured.fitted) ≡ [] =
      flat_map-append span_calls settings configured.fitted
      ∙ ap (λ l. flat_map span_calls settings ++ l) (fitted-none span_calls (λ _ _. refl) request.junctions settings shape config configured.fitted configured.fit)
      ∙ append-nil (flat_map span_calls settings) ∙ no-spans request columns rows empty in
      faulty-large config (none-spanned (settings ++ configured.fitted) config none configured.told) e named fault

pub refused-large : (request : Request) (input : List ℕ) (e : DrawError) → request.spans.items ≡ [] → IsCsvRefused request input e → e ≡ draw_errors.TooLarge
refused-large request input e empty so =
    let table = so.table in
    fault-large request empty table.columns table.rows table.shown
    (shown-full request.cut table.columns table.rows table.shown (rows-full request.reading input table.columns table.rows table.are) table.cut) (length table.rows, table.columns) e so.refuses so.fault
