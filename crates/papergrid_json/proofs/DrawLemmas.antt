-- The table of a document, and what is drawn with it.
use Rattle.std.proofs.Common.{Global, String, Vec, ◌≡◌, ◌∙◌, ◌^◌, ◌<◌, ℕ, List, Option, None, Some, Result, Ok, Err, arith, inl, inr, map, ap, refl, subst, sym}
use Rattle.std.specs.Prelude.{length, option_map, slice_index, string_bytes}
use Rattle.std.specs.BTreeMap.{get}
use Rattle.papergrid_values.specs.MapKeys.{position_cmp}
use Rattle.papergrid_values.specs.declared.direction.Direction.{Direction}
use Rattle.papergrid_values.specs.declared.direction.Direction.TheVariants.{Columns, Rows}
use Rattle.papergrid_config.specs.declared.spanned.SpannedConfig.{SpannedConfig}
use Rattle.papergrid_layout.specs.Answers.{AreBothSizes, UnlessMemory, UnlessMemoryError}
use Rattle.papergrid_layout.specs.Places.{total_along}
use Rattle.papergrid_layout.specs.Tables.{IsTable, IsTableOf, IsTotalTooLarge, TableParts, view_of}
use Rattle.papergrid_tracks.specs.declared.sizing.Sizing.{Sizing}
use Rattle.papergrid_tracks.specs.declared.error.LayoutError.{LayoutError}
use Rattle.papergrid_tracks.specs.declared.error.LayoutError.TheVariants as layout_errors
use Rattle.papergrid_draw.specs.Drawings.{Drawing}
use Rattle.papergrid_draw.specs.Errors.{draw_error_of}
use Rattle.papergrid_draw.specs.Faults.{AllHaveRoom}
use Rattle.papergrid_draw.specs.declared.error.DrawError.{DrawError}
use Rattle.papergrid_draw.specs.Cells.{lines_at, text_lines}
use Rattle.papergrid_walk.specs.Measures.{text_measure}
use Rattle.papergrid_config.specs.History.{HasSettingHistory}
use Rattle.papergrid_draw.specs.Sinks.{IsRefusal}
use Rattle.papergrid_draw.proofs.PictureLemmas.{refusal-told, room-in, sizes-told, unless-also}
use Rattle.papergrid_json.specs.Pictures.{AreNoSizesOf, AreSizesOf, IsDocumentDrawing, IsDocumentFault, IsDocumentTable, IsDocumentDrawingWith, IsDocumentFaultWith, Unsized}
use Rattle.papergrid_json.specs.Documents.{document_texts}
use Rattle.papergrid_json.specs.declared.document.Document.{Document}
use Rattle.papergrid_json.specs.declared.document.OwnSizes.{OwnSizes}
use Rattle.papergrid_config.specs.Grids.{spanned_grid}

same-color : {A : Type 0} (color : Option A) → option_map (λ x. x) color ≡ color
same-color None = refl
same-color (Some x) = refl

module _ (document : Document) (sizing : Sizing) (config : SpannedConfig) where
  -- these sizes come to too much
  abbrev IsTooLarge : LayoutError → List ℕ → List ℕ → Type 0
  IsTooLarge e widths heights = (e ≡ layout_errors.TooLarge) × IsTotalTooLarge (view_of (record { config = config; widths = widths; heights = heights }))

  -- what is so unless memory failed, where sizes are given
  own-error : (own : OwnSizes) (e : LayoutError) → document.sizes ≡ Some own → UnlessMemoryError e (AreNoSizesOf document sizing config (Some own) e) →
      UnlessMemoryError e (AreNoSizesOf document sizing config document.sizes e)
  own-error own (layout_errors.OutOfTable p) is are = subst (λ s. AreNoSizesOf document sizing config s (layout_errors.OutOfTable p)) (sym is) are
  own-error own layout_errors.TooLarge is are = subst (λ s. AreNoSizesOf document sizing config s layout_errors.TooLarge) (sym is) are
  own-error own (layout_errors.Memory e) is are = tt

  -- the table of sizes that are told
  pub table-own : (own : OwnSizes) (widths heights : List ℕ) (result : Result TableParts LayoutError) → document.sizes ≡ Some own → widths ≡ own.widths.items → heights ≡ own.heights.items →
      IsTable (record { config = config; widths = widths; heights = heights }) result → UnlessMemory result (IsDocumentTable document sizing config result)
  table-own own widths heights (Ok table) is across down so =
      let own_parts : ◌≡◌ {A = TableParts} (record { config = config; widths = widths; heights = heights }) (record { config = config; widths = own.widths.items; heights = own.heights.items }) =
      λ i. record { config = config; widths = across i; heights = down i } in
      let fits : (direction : Direction) → total_along (view_of (record { config = config; widths = own.widths.items; heights = own.heights.items })) direction < 2 ^ 64 =
      λ direction. subst (λ parts. total_along (view_of parts) direction < 2 ^ 64) own_parts (so.1 direction) in
      let small : IsTotalTooLarge (view_of (record { config = config; widths = own.widths.items; heights = own.heights.items })) → ⊥ = λ large. elim large [
        | inl wide ↦ (let fit = fits Columns in omega (arith, fit, wide))
        | inr high ↦ (let fit = fits Rows in omega (arith, fit, high))
      ] in (
        ap (λ t. t.config) so.0,
        subst (λ s. AreSizesOf document sizing config s table.widths table.heights) (sym is) (ap (λ t. t.widths) so.0 ∙ across, ap (λ t. t.heights) so.0 ∙ down, small),
      )
  table-own own widths heights (Err e) is across down so =
      own-error own e is (subst (λ w. UnlessMemoryError e (IsTooLarge e w own.heights.items)) across (subst (λ h. UnlessMemoryError e (IsTooLarge e widths h)) down so))

  -- the table of sizes that are chosen so, of cells that are seen through a view
  pub table-found : {A : Type 0} (view : A → String Global) (rows : List (Vec (String Global) Global)) (columns : ℕ) (result : Result TableParts LayoutError) → document.sizes ≡ None →
      rows ≡ document.rows.items → columns ≡ document.columns →
      UnlessMemory result ((cells : List (List A)) × (map (map view) cells ≡ map (λ row. row.items) rows)
      × IsTableOf config (λ x. text_measure (string_bytes (view x))) columns cells sizing result) → UnlessMemory result (IsDocumentTable document sizing config result)
  table-found view rows columns (Ok table) none same counted so =
      (so.2.0, subst (λ s. AreSizesOf document sizing config s table.widths table.heights) (sym none) (sizes-told view string_bytes (λ row. row.items) config sizing counted same table so))
  table-found view rows columns (Err e) none same counted so =
      unless-also e (subst (λ s. AreNoSizesOf document sizing config s e) (sym none)) (refusal-told view string_bytes (λ row. row.items) config sizing counted same e so)

  -- what is drawn of rows that are lent, by a table
  abbrev pub rows_drawn : List (Vec (String Global) Global) → TableParts → Drawing
  rows_drawn rows parts = record {
    config = parts.config;
    widths = slice_index parts.widths;
    heights = slice_index parts.heights;
    shape = (length parts.heights, length parts.widths);
    lines = lines_at text_lines (map (λ row. map string_bytes row.items) rows);
    color = λ p. option_map (λ color. color) (get position_cmp document.colors p);
  }

  -- it is the drawing with the sizes of the table
  pub drawing-by : (rows : List (Vec (String Global) Global)) (parts : TableParts) → rows ≡ document.rows.items → IsDocumentTable document sizing config (Ok parts) →
      IsDocumentDrawingWith document sizing config (rows_drawn rows parts)
  drawing-by rows parts same so = record {
    widths = parts.widths;
    heights = parts.heights;
    sized = so.1;
    is = λ i. record {
      config = so.0 i;
      widths = slice_index parts.widths;
      heights = slice_index parts.heights;
      shape = (length parts.heights, length parts.widths);
      lines = lines_at text_lines (map (λ row. map string_bytes row.items) (same i));
      color = λ p. same-color (get position_cmp document.colors p) i;
    };
  }

  -- in sizes that are chosen so there is room
  pub room-found : (rows : List (Vec (String Global) Global)) (parts : TableParts) → rows ≡ document.rows.items → IsDocumentTable document sizing config (Ok parts) → document.sizes ≡ None →
      AllHaveRoom (rows_drawn rows parts)
  room-found rows parts same so none =
      let sized = subst (λ s. AreSizesOf document sizing config s parts.widths parts.heights) none so.1 in
      let by_parts = subst (λ c. AreBothSizes (spanned_grid c) text_measure document.columns (document_texts document) sizing parts.widths parts.heights) (sym so.0) sized in
      room-in parts.config document.columns (map (λ row. map string_bytes row.items) rows) sizing parts.widths parts.heights _
      (subst (λ held. AreBothSizes (spanned_grid parts.config) text_measure document.columns (map (λ row. map string_bytes row.items) held) sizing parts.widths parts.heights) (sym same) by_parts)

  -- why there are no sizes is why there is no picture
  pub unsized : (e : LayoutError) → UnlessMemoryError e (AreNoSizesOf document sizing config document.sizes e) → IsRefusal (draw_error_of e) → IsDocumentFaultWith document sizing config (draw_error_of e)
  unsized (layout_errors.OutOfTable p) are is = Unsized (layout_errors.OutOfTable p) refl are
  unsized layout_errors.TooLarge are is = Unsized layout_errors.TooLarge refl are
  unsized (layout_errors.Memory e) are is = absurd is

  -- by a configuration that the settings make
  module _ (told : HasSettingHistory document.settings.items config) where
    pub drawn-by-settings : (d : Drawing) → IsDocumentDrawingWith document sizing config d → IsDocumentDrawing document sizing d
    drawn-by-settings d is = (config, told, is)

    pub fault-by-settings : (e : DrawError) → IsDocumentFaultWith document sizing config e → IsDocumentFault document sizing e
    fault-by-settings e is = (config, told, is)
