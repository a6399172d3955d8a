-- The sizes of cells that are seen through a view, and what is drawn with them.
use Rattle.std.proofs.Common.{◌≡◌, ◌≢◌, ◌⊎◌, ◌∙◌, ℕ, Bool, List, [], Option, None, Some, Result, Ok, Err, OnOk, IfErr, map, ap, inl, inr, refl, subst, sym}
use Rattle.std.specs.Prelude.{option_and_then, slice_get, slice_index_or}
use Rattle.std.proofs.lemmas.Option.{get_or_from_slice_get, slice_get-get_or, slice_get_cases}
use Rattle.papergrid_values.specs.declared.position.Position.{Position}
use Rattle.papergrid_values.specs.declared.direction.Direction.TheVariants.{Columns}
use Rattle.papergrid_tracks.specs.Sizings.{AreSizesBy}
use Rattle.papergrid_tracks.specs.Fits.{Fits}
use Rattle.papergrid_tracks.specs.declared.error.LayoutError.{LayoutError}
use Rattle.papergrid_tracks.specs.declared.error.LayoutError.TheVariants as layout_errors
use Rattle.papergrid_config.specs.Grids.{spanned_grid}
use Rattle.papergrid_config.specs.declared.setting.Setting.{Setting}
use Rattle.papergrid_config.specs.declared.spanned.SpannedConfig.{SpannedConfig}
use Rattle.papergrid_walk.specs.Cells.{problem_of}
use Rattle.papergrid_layout.specs.Answers.{AreBothSizes, IsBothRefused}
use Rattle.papergrid_layout.specs.Laws.{RowHasCell}
use Rattle.papergrid_tracks.specs.declared.sizing.Sizing.{Sizing}
use Rattle.papergrid_text.proofs.RowSteps.{told_by}
use Rattle.papergrid_layout.proofs.Told.{both_refused_told, both_told}
use Rattle.papergrid_layout.proofs.TotalLemmas.{room-of}
use Rattle.papergrid_layout.specs.Answers.{UnlessMemoryError}
use Rattle.papergrid_layout.specs.Tables.{IsTableOf, TableParts}
use Rattle.papergrid_draw.specs.Contents.{lines_of}
use Rattle.papergrid_draw.specs.Deliveries.{IsNotBegun}
use Rattle.papergrid_draw.specs.Drawings.{Drawing, drawn_of}
use Rattle.papergrid_draw.specs.Errors.{draw_error_of}
use Rattle.papergrid_draw.specs.Faults.{AllHaveRoom, IsDrawFault, IsDrawable}
use Rattle.papergrid_draw.specs.Laws.{AreLinesAt}
use Rattle.papergrid_draw.proofs.EstimateLemmas.{texts-leave-room}
use Rattle.papergrid_draw.specs.declared.error.DrawError.{DrawError}
use Rattle.papergrid_draw.specs.declared.error.DrawError.TheVariants as draw_errors
use Rattle.papergrid_walk.specs.Measures.{text_measure}
use Rattle.papergrid_draw.specs.Cells.{lines_at, text_lines}
use Rattle.papergrid_config.specs.History.{HasSettingHistory}
use Rattle.papergrid_draw.specs.Pictures.{IsDrawingBy, IsDrawingWith, IsFaultWith, IsPictureFault, Undrawn, Unsized, texts_drawing}
use Rattle.papergrid_text.specs.Transfer.{IsTaken}
use Rattle.papergrid_draw.specs.Sinks.{IsCutOff, IsRefusal, IsUndrawn, WritesPicture}
use Rattle.papergrid_draw.proofs.SinkLemmas.{draws-none, draws-so}

-- the lines at a position are those of the text that the rows have there
pub lines-of-rows : (texts : List (List (List ℕ))) (p : Position) → AreLinesAt (λ text. text) texts p (lines_at text_lines texts p)
lines-of-rows texts p = record {
  of_cell = λ cell is.
      ap in-row (slice_get-get_or texts p.row [] is.0)
      ∙ ap (lines_of text_lines) (slice_get-get_or (slice_index_or texts p.row []) p.col cell is.1.0 ∙ ap Some is.1.1);
  of_none = λ none. elim (slice_get_cases texts p.row).1 [
    | inl at ↦ ap in-row at.2 ∙ (elim (slice_get_cases at.0 p.col).1 [
      | inl found ↦ absurd (none found.0 (at.1, subst (λ row. RowHasCell row p.col found.0) (sym (get_or_from_slice_get texts p.row at.0 [] at.2)) (found.1, found.3)))
      | inr past ↦ ap (lines_of text_lines) past.1
    ])
    | inr past ↦ ap in-row past.1
  ];
}
  where
    in-row : Option (List (List ℕ)) → List (List ℕ × ℕ)
    in-row row = lines_of text_lines (option_and_then (λ cells. slice_get cells p.col) row)

-- what follows from what holds unless an allocation failed
pub unless-also : (e : LayoutError) {P Q : Type 0} → (P → Q) → UnlessMemoryError e P → UnlessMemoryError e Q
unless-also (layout_errors.OutOfTable p) follows is = follows is
unless-also layout_errors.TooLarge follows is = follows is
unless-also (layout_errors.Memory e) follows is = tt

-- rows of texts, as records of so many columns tell them: each cell is seen as one of a row
module _ {A B R : Type 0} (seen : A → B) (text : B → List ℕ) (items : R → List B) (config : SpannedConfig) (sizing : Sizing)
    {many columns : ℕ} (counted : many ≡ columns) {given rows : List R} (same : given ≡ rows) where
  abbrev row_texts : R → List (List ℕ)
  row_texts row = map text (items row)

  -- the table that is made of them, or why there is none
  abbrev TellTable : Result TableParts LayoutError → Type 0
  TellTable result = (cells : List (List A)) × (map (map seen) cells ≡ map items given) × IsTableOf config (λ x. text_measure (text (seen x))) many cells sizing result

  texts-told : (cells : List (List A)) → map (map seen) cells ≡ map items given → map (map (λ x. text (seen x))) cells ≡ map row_texts rows
  texts-told cells told = told_by seen text items cells given told ∙ ap (map row_texts) same

  -- its sizes are those of the texts
  pub sizes-told : (parts : TableParts) → TellTable (Ok parts) → AreBothSizes (spanned_grid config) text_measure columns (map row_texts rows) sizing parts.widths parts.heights
  sizes-told parts told = subst (λ n. AreBothSizes (spanned_grid config) text_measure n (map row_texts rows) sizing parts.widths parts.heights) counted
      (both_told (spanned_grid config) (λ x. text (seen x)) text_measure told.0 (map row_texts rows) (texts-told told.0 told.1) many (AreSizesBy sizing) parts.widths parts.heights told.2.1)

  -- there are none for them
  pub refusal-told : (e : LayoutError) → UnlessMemoryError e (TellTable (Err e)) → UnlessMemoryError e (IsBothRefused (spanned_grid config) text_measure columns (map row_texts rows) sizing e)
  refusal-told e = unless-also e (λ told. subst (λ n. IsBothRefused (spanned_grid config) text_measure n (map row_texts rows) sizing e) counted
      (both_refused_told (spanned_grid config) (λ x. text (seen x)) text_measure told.0 (map row_texts rows) (texts-told told.0 told.1) many sizing e told.2))

  -- what is drawn of the rows by it is their drawing
  pub drawing-told : (parts : TableParts) → TellTable (Ok parts) → (lent : List R) → lent ≡ rows →
      IsDrawingWith columns (map row_texts rows) sizing config (drawn_of (λ held. lines_at text_lines (map row_texts held)) (λ _ _. None) parts lent)
  drawing-told parts told lent held = record {
    widths = parts.widths;
    heights = parts.heights;
    sized = sizes-told parts told;
    is = λ i. texts_drawing (told.2.0 i) (map row_texts (held i)) parts.widths parts.heights;
  }

-- so each visible cell has room in a drawing with them, whatever the colours are
pub room-in : (config : SpannedConfig) (columns : ℕ) (texts : List (List (List ℕ))) (sizing : Sizing) (widths heights : List ℕ) (color : Position → Option (List ℕ × List ℕ)) →
    AreBothSizes (spanned_grid config) text_measure columns texts sizing widths heights → AllHaveRoom (record (texts_drawing config texts widths heights) { color = color })
room-in config columns texts sizing widths heights color sized =
    let fits = (room-of sizing (problem_of (spanned_grid config) text_measure columns texts Columns) widths sized.widths).fits in
    let counted = subst (λ n. Fits (problem_of (spanned_grid config) text_measure n texts Columns) widths) (sym fits.one_each) fits in
    texts-leave-room (record (texts_drawing config texts widths heights) { color = color }) (λ text. text) texts widths refl counted (λ p cell. lines-of-rows texts p)

pub room-with : (columns : ℕ) (texts : List (List (List ℕ))) (sizing : Sizing) (config : SpannedConfig) (d : Drawing) → IsDrawingWith columns texts sizing config d → AllHaveRoom d
room-with columns texts sizing config d is =
    subst AllHaveRoom (sym is.is) (room-in config columns texts sizing is.widths is.heights (λ _. None) is.sized)

-- an error of a layout is no failed write
pub no-write : (e : LayoutError) → draw_error_of e ≢ draw_errors.Write
no-write (layout_errors.OutOfTable p) is = cc
no-write layout_errors.TooLarge is = cc
no-write (layout_errors.Memory e) is = cc

-- no cell lacks room in sizes that are found for it
pub has-room : (columns : ℕ) (texts : List (List (List ℕ))) (sizing : Sizing) (config : SpannedConfig) (e : DrawError) → IsFaultWith columns texts sizing config e →
    (p : Position) → e ≢ draw_errors.NoRoom p
has-room columns texts sizing config e (Unsized error same are) p is = none error (sym same ∙ is)
  where
    none : (error : LayoutError) → draw_error_of error ≢ draw_errors.NoRoom p
    none (layout_errors.OutOfTable q) is = cc
    none layout_errors.TooLarge is = cc
    none (layout_errors.Memory e) is = cc
has-room columns texts sizing config e (Undrawn d drawn fault) p is = room-with columns texts sizing config d drawn p (subst (IsDrawFault d) is fault).1.it

-- so of what is written by a configuration
pub picture-has-room : {W A : Type 0} (contents : W → Option (List ℕ)) (has_failed has_stalled : W → Bool) (IsDrawn : Drawing → Type 0) (text_of : Drawing → List ℕ)
    (columns : ℕ) (texts : List (List (List ℕ))) (sizing : Sizing) (config : SpannedConfig) (old new : W) (result : Result A DrawError) →
    WritesPicture contents has_failed has_stalled IsDrawn (IsFaultWith columns texts sizing config) text_of old new result → IfErr result (λ e. (p : Position) → e ≢ draw_errors.NoRoom p)
picture-has-room contents has_failed has_stalled IsDrawn text_of columns texts sizing config old new (Ok x) so = tt
picture-has-room contents has_failed has_stalled IsDrawn text_of columns texts sizing config old new (Err e) so =
    λ p is. has-room columns texts sizing config e (so.fault (subst IsRefusal (sym is) tt)) p is

-- what is known of a call that draws by a configuration, with the sizes that are chosen so
module _ {W : Type 0} (contents : W → Option (List ℕ)) (has_failed has_stalled : W → Bool) (config : SpannedConfig) (columns : ℕ) (texts : List (List (List ℕ)))
    (sizing : Sizing) (text_of : Drawing → List ℕ) where
  -- there are no sizes
  pub unsized : (w : W) (e : LayoutError) → UnlessMemoryError e (IsBothRefused (spanned_grid config) text_measure columns texts sizing e) →
      IsUndrawn contents has_failed has_stalled (IsDrawingWith columns texts sizing config) (IsFaultWith columns texts sizing config) text_of w w (draw_error_of e)
  unsized w e are = draws-none contents has_failed has_stalled (IsDrawingWith columns texts sizing config) (IsFaultWith columns texts sizing config) text_of w (draw_error_of e) (no-write e) (named e are)
    where
      named : (e : LayoutError) → UnlessMemoryError e (IsBothRefused (spanned_grid config) text_measure columns texts sizing e) → IsRefusal (draw_error_of e) → IsFaultWith columns texts sizing config (draw_error_of e)
      named (layout_errors.OutOfTable p) are is = Unsized (layout_errors.OutOfTable p) refl are
      named layout_errors.TooLarge are is = Unsized layout_errors.TooLarge refl are
      named (layout_errors.Memory e) are is = absurd is

  -- there are, and it was drawn with them, or not
  pub drawn-so : {A : Type 0} (d : Drawing) → IsDrawingWith columns texts sizing config d → (old new : W) (result : Result A DrawError) →
      IsDrawable d ⊎ IsNotBegun old new result → OnOk result (IsTaken contents has_failed has_stalled old (text_of d) new) → IfErr result (IsDrawFault d) → IfErr result (IsCutOff contents has_failed has_stalled old (text_of d) new) →
      WritesPicture contents has_failed has_stalled (IsDrawingWith columns texts sizing config) (IsFaultWith columns texts sizing config) text_of old new result
  drawn-so d is = draws-so contents has_failed has_stalled (IsDrawingWith columns texts sizing config) (IsFaultWith columns texts sizing config) text_of d is (λ e fault. Undrawn d is fault)

-- by a configuration that settings make
module _ (settings : List Setting) (config : SpannedConfig) (told : HasSettingHistory settings config) (columns : ℕ) (texts : List (List (List ℕ))) (sizing : Sizing) where
  pub drawn-by-settings : (d : Drawing) → IsDrawingWith columns texts sizing config d → IsDrawingBy columns texts sizing settings d
  drawn-by-settings d is = (config, told, is)

  pub fault-by-settings : (e : DrawError) → IsFaultWith columns texts sizing config e → IsPictureFault columns texts sizing settings e
  fault-by-settings e is = (config, told, is)
