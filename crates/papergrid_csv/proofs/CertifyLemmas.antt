-- What is found of a table, of rows and of an input.
use Rattle.std.proofs.Common.{Global, Vec, ◌≡◌, ◌≢◌, ◌∙◌, ℕ, List, [], Option, None, Some, Result, Ok, Err, ap, length, map, refl, subst, sym}
use Rattle.std.specs.Prelude.{Bool, IfOk, MatchBool, MatchOption, false, not, true}
use Rattle.std.specs.Borrow.{Bor}
use Rattle.std.specs.declared.alloc.AllocError.{AllocError}
use Rattle.std.proofs.lemmas.List.{length-map}
use Rattle.papergrid_values.specs.declared.direction.Direction.{Direction}
use Rattle.papergrid_values.specs.declared.direction.Direction.TheVariants.{Columns, Rows}
use Rattle.papergrid_values.specs.declared.per_direction.PerDirection.{PerDirection}
use Rattle.papergrid_tracks.specs.declared.error.LayoutError.{LayoutError}
use Rattle.papergrid_tracks.specs.declared.error.LayoutError.TheVariants as layout_errors
use Rattle.papergrid_tracks.specs.Problem.{Problem}
use Rattle.papergrid_tracks.specs.Sizings.{IsTotal}
use Rattle.papergrid_tracks.specs.declared.sizing.Sizing.{Sizing}
use Rattle.papergrid_tracks.specs.declared.solution.Solved.{Solved}
use Rattle.papergrid_config.specs.Grids.{spanned_grid}
use Rattle.papergrid_config.specs.declared.setting.Setting.{Setting}
use Rattle.papergrid_config.specs.declared.spanned.SpannedConfig.{SpannedConfig}
use Rattle.papergrid_walk.specs.Cells.{problem_of}
use Rattle.papergrid_walk.specs.Measures.{text_measure}
use Rattle.papergrid_text.proofs.RowSteps.{told_by}
use Rattle.papergrid_layout.specs.Answers.{AreBothSizes, HoldAlong, IsBothRefused, UnlessMemoryError}
use Rattle.papergrid_layout.specs.Certificates.{IsCertifiedBy}
use Rattle.papergrid_layout.specs.Places.{TableView, sized_table, total_along}
use Rattle.papergrid_layout.proofs.PlaceLaws.{totals}
use Rattle.papergrid_layout.proofs.Told.{both_told}
use Rattle.papergrid_layout.proofs.TotalLemmas.{room-of}
use Rattle.papergrid_draw.specs.Drawings.{Drawing, layout_of}
use Rattle.papergrid_draw.specs.Errors.{draw_error_of}
use Rattle.papergrid_draw.specs.Lined.{lined}
use Rattle.papergrid_draw.specs.Pictures.{IsDrawingWith, Unsized, texts_drawing}
use Rattle.papergrid_draw.specs.Sinks.{IsRefusal}
use Rattle.papergrid_draw.specs.Tiles.{IsTileFault, IsTiled}
use Rattle.papergrid_draw.specs.declared.error.DrawError.{DrawError}
use Rattle.papergrid_draw.specs.declared.error.DrawError.TheVariants as draw_errors
use Rattle.papergrid_csv.specs.Certified.{HasNoPicture, HasNoSizes, HasPicture, IsCsvCertified, has_sizes}
use Rattle.papergrid_csv.specs.Pictures.{IsCsvRun, IsNarrow, IsUnfitted, IsWide}
use Rattle.papergrid_csv.specs.Requests.{settings_of}
use Rattle.papergrid_csv.specs.Rows.{AreRowsOf, IsUnread, held_texts, row_texts}
use Rattle.papergrid_csv.specs.Shown.{AreCut}
use Rattle.papergrid_csv.specs.ForProofs.Drawn.{Crossed, Faulted, IsConfigRun, IsFree, IsKeptBy, IsRowsRun, IsSettingsRun, Kept, Sized}
use Rattle.papergrid_csv.specs.ForProofs.Solved.{AreConfigSolved, AreRowsSolved, AreSettingsSolved, unless_refused}
use Rattle.papergrid_csv.specs.declared.reading.RowsError.{RowsError}
use Rattle.papergrid_csv.specs.declared.reading.RowsError.TheVariants as rows_errors
use Rattle.papergrid_csv.specs.declared.request.Request.{Request}
use Rattle.papergrid_csv.specs.declared.run.CsvEnd.{CsvEnd}
use Rattle.papergrid_csv.specs.declared.run.CsvEnd.TheVariants.{Drawn, Hides, NoColumn, NotText, Ragged, Refused, TooWide, Unclosed}
use Rattle.papergrid_csv.proofs.CutTextLemmas.{shown-length}
use Rattle.papergrid_csv.proofs.RunLemmas.{csv-run-of, rows-run-of, tile-fault}

-- ---- an answer

-- what follows of what is found, or of there being nothing
pub found-also : {A E : Type 0} {P P2 : Type 0} {Q Q2 : A → Type 0} → (P → P2) → ((a : A) → Q a → Q2 a) → (result : Result (Option A) E) →
    IfOk result (λ found. MatchOption found P Q) → IfOk result (λ found. MatchOption found P2 Q2)
found-also none some (Ok None) so = none so
found-also none some (Ok (Some a)) so = some a so
found-also none some (Err e) so = tt

-- no sizes, by another way to say how a run ends
no-sizes-also : (IsSo IsAlso : CsvEnd → List ℕ → Type 0) → ((end : CsvEnd) (output : List ℕ) → IsSo end output → IsAlso end output) → HasNoSizes IsSo → HasNoSizes IsAlso
no-sizes-also IsSo IsAlso follows so = (so.0, so.1, follows so.0 [] so.2)

-- ---- a configuration

module _ {A B R : Type 0} (seen : A → B) (text : B → List ℕ) (items : R → List B) (config : SpannedConfig) (sizing : Sizing)
    {many columns : ℕ} (counted : many ≡ columns) {given rows : List R} (same : given ≡ rows) where
  abbrev texts : List (List (List ℕ))
  texts = map (λ row. map text (items row)) rows

  -- what is found of rows that are yielded is found of their texts
  solved-told : (found : PerDirection Solved) →
      ((cells : List (List A)) × (map (map seen) cells ≡ map items given)
      × HoldAlong (spanned_grid config) (λ x. text_measure (text (seen x))) many cells (IsCertifiedBy sizing) found.columns found.rows) →
      HoldAlong (spanned_grid config) text_measure columns texts (IsCertifiedBy sizing) found.columns found.rows
  solved-told found told =
      let are = told_by seen text items told.0 given told.1 ∙ ap (map (λ row. map text (items row))) same in
      subst (λ n. HoldAlong (spanned_grid config) text_measure n texts (IsCertifiedBy sizing) found.columns found.rows) counted
      (both_told (spanned_grid config) (λ x. text (seen x)) text_measure told.0 texts are many (IsCertifiedBy sizing) found.columns found.rows told.2)

pub unsized-none : (Q : PerDirection Solved → Type 0) (request : Request) (columns : ℕ) (rows : List (List (List ℕ))) (config : SpannedConfig) (e : LayoutError) →
    UnlessMemoryError e (IsBothRefused (spanned_grid config) text_measure columns rows request.sizing e) →
    IfOk (unless_refused (draw_error_of e)) (λ found. MatchOption found (HasNoSizes (IsConfigRun request columns rows config)) Q)
unsized-none Q request columns rows config (layout_errors.OutOfTable p) are =
    (Refused (draw_errors.OutOfTable p), refl, Faulted (draw_errors.OutOfTable p) refl tt (Unsized (layout_errors.OutOfTable p) refl are) refl)
unsized-none Q request columns rows config layout_errors.TooLarge are = (Refused draw_errors.TooLarge, refl, Faulted draw_errors.TooLarge refl tt (Unsized layout_errors.TooLarge refl are) refl)
unsized-none Q request columns rows config (layout_errors.Memory e) are = tt

-- ---- the drawing of what is found

module _ (request : Request) (columns : ℕ) (texts : List (List (List ℕ))) (config : SpannedConfig) (found : PerDirection Solved)
    (certified : HoldAlong (spanned_grid config) text_measure columns texts (IsCertifiedBy request.sizing) found.columns found.rows) where
  abbrev widths : List ℕ
  widths = found.columns.sizes.items

  abbrev heights : List ℕ
  heights = found.rows.sizes.items

  abbrev d : Drawing
  d = texts_drawing config texts widths heights

  abbrev problem : Direction → Problem
  problem = problem_of (spanned_grid config) text_measure columns texts

  sized : AreBothSizes (spanned_grid config) text_measure columns texts request.sizing widths heights
  sized = record { widths = certified.widths.sizes; heights = certified.heights.sizes }

  abbrev drawn : IsDrawingWith columns texts request.sizing config d
  drawn = record { widths = widths; heights = heights; sized = sized; is = refl }

  -- how many rows and columns the drawing has, and how many there are
  abbrev drawn_shape : ℕ × ℕ
  drawn_shape = (length heights, length widths)

  abbrev own_shape : ℕ → ℕ × ℕ
  own_shape many = (many, columns)

  same-shape : own_shape (length texts) ≡ drawn_shape
  same-shape =
      let many = (room-of request.sizing (problem Columns) widths sized.widths).fits.one_each in
      let high = (room-of request.sizing (problem Rows) heights sized.heights).fits.one_each in
      ap own_shape (sym high) ∙ ap (λ n. (length heights, n)) (sym many)

  shape-of : (many : ℕ) → length texts ≡ many → drawn_shape ≡ own_shape many
  shape-of many counted = sym same-shape ∙ ap own_shape counted

  total-of : (direction : Direction) (answer : ℕ) → IsTotal request.sizing (problem direction) answer → answer ≡ total_along (layout_of d) direction
  total-of direction answer is =
      let same = (totals request.sizing (spanned_grid config) text_measure columns texts widths heights sized direction answer).0 is in
      same ∙ ap (λ (shape : ℕ × ℕ). total_along (sized_table (spanned_grid config) widths heights shape) direction) same-shape

  total-width : found.columns.total ≡ total_along (layout_of d) Columns
  total-width = total-of Columns found.columns.total (record { sizes = widths; are_sizes = certified.widths.sizes; adds_up = certified.widths.total })

  total-height : found.rows.total ≡ total_along (layout_of d) Rows
  total-height = total-of Rows found.rows.total (record { sizes = heights; are_sizes = certified.heights.sizes; adds_up = certified.heights.total })

  -- spans keep it from its picture
  untiled : (e : DrawError) → IsRefusal e → IsTileFault (layout_of d) e → IsConfigRun request columns texts config (Refused e) []
  untiled e named fault = Sized d drawn (named, tile-fault d e fault named, refl)

  untiled-none : (Q : PerDirection Solved → Type 0) (e : DrawError) → IsTileFault (layout_of d) e → IfOk (unless_refused e) (λ found. MatchOption found (HasNoSizes (IsConfigRun request columns texts config)) Q)
  untiled-none Q (draw_errors.OutOfTable p) fault = (Refused (draw_errors.OutOfTable p), refl, untiled (draw_errors.OutOfTable p) tt fault)
  untiled-none Q (draw_errors.NotTiled p) fault = (Refused (draw_errors.NotTiled p), refl, untiled (draw_errors.NotTiled p) tt fault)
  untiled-none Q (draw_errors.NoRoom p) fault = absurd fault
  untiled-none Q draw_errors.TooLarge fault = absurd fault
  untiled-none Q (draw_errors.Memory e) fault = tt
  untiled-none Q draw_errors.Write fault = absurd fault

-- ---- spans that tile a table, or do not

module _ {A B R : Type 0} (seen : A → B) (text : B → List ℕ) (items : R → List B) (config : SpannedConfig) (request : Request)
    {many columns : ℕ} (counted : many ≡ columns) {given rows : List R} (same : given ≡ rows) (found : PerDirection Solved)
    (told : (cells : List (List A)) × (map (map seen) cells ≡ map items given)
    × HoldAlong (spanned_grid config) (λ x. text_measure (text (seen x))) many cells (IsCertifiedBy request.sizing) found.columns found.rows) where
  abbrev row_texts_of : R → List (List ℕ)
  row_texts_of row = map text (items row)

  certified-texts : HoldAlong (spanned_grid config) text_measure columns (map row_texts_of rows) (IsCertifiedBy request.sizing) found.columns found.rows
  certified-texts = solved-told seen text items config request.sizing counted same found told

  -- what holds of each table of this configuration and shape
  abbrev HoldsOfTables : (TableView → Type 0) → Type 0
  HoldsOfTables holds = (table : TableView) → table.grid ≡ spanned_grid config → table.shape ≡ (length rows, columns) → holds table

  of-drawing : (holds : TableView → Type 0) → HoldsOfTables holds → holds (layout_of (d request columns (map row_texts_of rows) config found certified-texts))
  of-drawing holds so =
      so (layout_of (d request columns (map row_texts_of rows) config found certified-texts)) refl
      (shape-of request columns (map row_texts_of rows) config found certified-texts (length rows) (length-map rows row_texts_of))

  pub tiled-found : HoldsOfTables IsTiled → AreConfigSolved request columns (map row_texts_of rows) config found
  tiled-found so = record { certified = certified-texts; tiled = of-drawing IsTiled so }

  pub untiled-found : (Q : PerDirection Solved → Type 0) (e : DrawError) → HoldsOfTables (λ table. IsTileFault table e) →
      IfOk (unless_refused e) (λ found. MatchOption found (HasNoSizes (IsConfigRun request columns (map row_texts_of rows) config)) Q)
  untiled-found Q e so = untiled-none request columns (map row_texts_of rows) config found certified-texts Q e (of-drawing (λ table. IsTileFault table e) so)

-- ---- settings

module _ (request : Request) (settings : List Setting) (shape : ℕ × ℕ) (columns : ℕ) (texts : List (List (List ℕ))) (Q : PerDirection Solved → Type 0) where
  abbrev IsNone : DrawError → Type 0
  IsNone e = IfOk (unless_refused e) (λ found. MatchOption found (HasNoSizes (IsSettingsRun request settings shape columns texts)) Q)

  pub unfitted-none : (e : DrawError) → e ≢ draw_errors.Write → (IsRefusal e → IsUnfitted request.junctions settings shape e) → IsNone e
  unfitted-none (draw_errors.OutOfTable p) works so = (Refused (draw_errors.OutOfTable p), refl, Crossed (draw_errors.OutOfTable p) refl tt (so tt) refl)
  unfitted-none (draw_errors.NotTiled p) works so = (Refused (draw_errors.NotTiled p), refl, Crossed (draw_errors.NotTiled p) refl tt (so tt) refl)
  unfitted-none (draw_errors.NoRoom p) works so = (Refused (draw_errors.NoRoom p), refl, Crossed (draw_errors.NoRoom p) refl tt (so tt) refl)
  unfitted-none draw_errors.TooLarge works so = (Refused draw_errors.TooLarge, refl, Crossed draw_errors.TooLarge refl tt (so tt) refl)
  unfitted-none (draw_errors.Memory e) works so = tt
  unfitted-none draw_errors.Write works so = absurd (works refl)

-- ---- rows

pub kept-none : (request : Request) (columns : ℕ) (rows : List (List (List ℕ))) (end : CsvEnd) → IsKeptBy request rows end → HasNoSizes (IsRowsRun request columns rows)
kept-none request columns rows (NoColumn entry) kept = (NoColumn entry, refl, Kept kept refl)
kept-none request columns rows (Hides p) kept = (Hides p, refl, Kept kept refl)
kept-none request columns rows Drawn kept = absurd kept
kept-none request columns rows (Refused e) kept = absurd kept
kept-none request columns rows (TooWide width) kept = absurd kept
kept-none request columns rows (NotText count) kept = absurd kept
kept-none request columns rows (Unclosed count) kept = absurd kept
kept-none request columns rows (Ragged count fields first) kept = absurd kept

-- by rows that are lent
module _ (request : Request) (columns : ℕ) (rows : List (List (List ℕ))) (free : IsFree request rows) (held : Vec (Vec (Bor (List ℕ)) Global) Global) (cut : AreCut request.cut rows (held_texts held))
    (lent : List (Vec (Bor (List ℕ)) Global)) (same_rows : lent ≡ held.items) where
  abbrev settings : List Setting
  settings = settings_of request columns rows

  rows-solved : (found : PerDirection Solved) → AreSettingsSolved request settings (length lent, columns) columns (map row_texts lent) found → AreRowsSolved request columns rows found
  rows-solved found so =
      let same : map row_texts lent ≡ held_texts held = ap (map row_texts) same_rows in
      let counted : length lent ≡ length rows = sym (length-map lent row_texts) ∙ ap length same ∙ shown-length request.cut rows (held_texts held) cut in
      let by_shape = subst (λ n. AreSettingsSolved request settings (n, columns) columns (map row_texts lent) found) counted so in
      (held_texts held, free, cut, subst (λ t. AreSettingsSolved request settings (length rows, columns) columns t found) same by_shape)

  pub rows-found : (result : Result (Option (PerDirection Solved)) AllocError) →
      IfOk result (λ found. MatchOption found (HasNoSizes (IsSettingsRun request settings (length lent, columns) columns (map row_texts lent)))
      (AreSettingsSolved request settings (length lent, columns) columns (map row_texts lent))) →
      IfOk result (λ found. MatchOption found (HasNoSizes (IsRowsRun request columns rows)) (AreRowsSolved request columns rows))
  rows-found result so = found-also
      (no-sizes-also (IsSettingsRun request settings (length lent, columns) columns (map row_texts lent)) (IsRowsRun request columns rows) (rows-run-of request columns rows free held cut lent same_rows))
      rows-solved result so

-- ---- an input

module _ (request : Request) (input : List ℕ) where
  unread-none : (e : RowsError) → e ≢ rows_errors.Memory → IsUnread request.reading input e → HasNoSizes (IsCsvRun request input)
  unread-none (rows_errors.NotText count) named is = (NotText count, refl, (is, refl))
  unread-none (rows_errors.Unclosed count) named is = (Unclosed count, refl, (is, refl))
  unread-none (rows_errors.Ragged count fields first) named is = (Ragged count fields first, refl, (is, refl))
  unread-none rows_errors.Memory named is = absurd (named refl)

  pub unread-found : (e : RowsError) → IsUnread request.reading input e → (result : Result (Option (PerDirection Solved)) AllocError) →
      IfOk result (λ found. (found ≡ None) × (e ≢ rows_errors.Memory)) → IfOk result (λ found. MatchOption found (HasNoSizes (IsCsvRun request input)) (IsCsvCertified request input))
  unread-found e is (Ok None) so = unread-none e so.1 is
  unread-found e is (Ok (Some found)) so = absurd (let none = so.0 in let no : ⊥ = cc in no)
  unread-found e is (Err error) so = tt

pub csv-found : (request : Request) (input : List ℕ) (columns : ℕ) (rows : List (List (List ℕ))) → AreRowsOf request.reading input columns rows → (result : Result (Option (PerDirection Solved)) AllocError) →
    IfOk result (λ found. MatchOption found (HasNoSizes (IsRowsRun request columns rows)) (AreRowsSolved request columns rows)) →
    IfOk result (λ found. MatchOption found (HasNoSizes (IsCsvRun request input)) (IsCsvCertified request input))
csv-found request input columns rows are result so = found-also
    (no-sizes-also (IsRowsRun request columns rows) (IsCsvRun request input) (csv-run-of request input columns rows are)) certified result so
  where
    certified : (found : PerDirection Solved) → AreRowsSolved request columns rows found → IsCsvCertified request input found
    certified found solved =
        let (shown, free, cut, (config, configured, so)) = solved in
        record {
          d = d request columns shown config found so.certified;
          drawing = record {
            table = record { columns = columns; rows = rows; shown = shown; are = are; named = free.named; seen = free.seen; cut = cut };
            config = config;
            configured = configured;
            drawn = drawn request columns shown config found so.certified;
            tiled = so.tiled;
          };
          widths = refl;
          heights = refl;
          width = total-width request columns shown config found so.certified;
          height = total-height request columns shown config found so.certified;
          certified = so.certified;
        }

-- ---- a picture

pub no-picture : (request : Request) (input : List ℕ) → HasNoSizes (IsCsvRun request input) → HasNoPicture request input
no-picture request input (end, none, so) = (end, other end none, so)
  where
    other : (end : CsvEnd) → has_sizes end ≡ false → end ≢ Drawn
    other end none is = let sized = ap has_sizes is in let no : ⊥ = cc in no

module _ (request : Request) (input : List ℕ) (found : PerDirection Solved) (certified : IsCsvCertified request input found) where
  narrow-picture : IsNarrow request.max_width found.columns.total → HasPicture request input
  narrow-picture narrow = (lined certified.d, (certified.d, certified.drawing, subst (IsNarrow request.max_width) certified.width narrow, refl))

  wide-none : IsWide request.max_width found.columns.total → HasNoPicture request input
  wide-none wide = (TooWide found.columns.total, (λ is. cc), ((certified.d, certified.drawing, certified.width, wide), refl))

  pub picture-by : (wide : Bool) → MatchBool wide (IsWide request.max_width found.columns.total) (IsNarrow request.max_width found.columns.total) →
      MatchBool (not wide) (HasPicture request input) (HasNoPicture request input)
  picture-by true is = wide-none is
  picture-by false is = narrow-picture is
