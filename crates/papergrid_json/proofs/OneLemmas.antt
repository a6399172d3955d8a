-- A document has no two pictures, no two reasons why it has none, and never both.
use Rattle.std.proofs.Common.{◌≡◌, ◌∙◌, ℕ, List, Option, None, Some, ap, length, refl, subst, sym}
use Rattle.std.specs.Prelude.{slice_index}
use Rattle.papergrid_tracks.specs.declared.error.LayoutError.{LayoutError}
use Rattle.papergrid_tracks.specs.declared.sizing.Sizing.{Sizing}
use Rattle.papergrid_maps.specs.Grids.{Grid}
use Rattle.papergrid_config.specs.ConfigSame.{HoldTheSameSettings}
use Rattle.papergrid_config.specs.Grids.{spanned_grid}
use Rattle.papergrid_config.specs.History.{HasSettingHistory}
use Rattle.papergrid_config.specs.declared.spanned.SpannedConfig.{SpannedConfig}
use Rattle.papergrid_walk.specs.Measures.{text_measure}
use Rattle.papergrid_layout.specs.Answers.{AreBothSizes, IsBothRefused}
use Rattle.papergrid_layout.specs.Places.{TableView, sized_table}
use Rattle.papergrid_layout.specs.Tables.{IsTotalTooLarge}
use Rattle.papergrid_draw.specs.Drawings.{Drawing}
use Rattle.papergrid_draw.specs.Errors.{draw_error_of}
use Rattle.papergrid_draw.specs.Faults.{IsDrawFault, IsDrawable}
use Rattle.papergrid_draw.specs.Lined.{lined}
use Rattle.papergrid_draw.specs.Sinks.{IsRefusal}
use Rattle.papergrid_draw.specs.declared.error.DrawError.{DrawError}
use Rattle.papergrid_draw.proofs.OneLemmas.{drawn-or-refused, fault-there, one-error, one-refusal, one-sizes, other-way, sized-or-refused}
use Rattle.papergrid_draw.proofs.SameLemmas.{same-settings-lines}
use Rattle.papergrid_json.specs.Documents.{document_texts}
use Rattle.papergrid_json.specs.Pictures.{AreNoSizesOf, AreSizesOf, IsDocumentDrawing, IsDocumentDrawingWith, IsDocumentFault, IsDocumentFaultWith, Undrawn, Unsized, document_drawing}
use Rattle.papergrid_json.specs.declared.document.Document.{Document}
use Rattle.papergrid_json.specs.declared.document.OwnSizes.{OwnSizes}

module _ (document : Document) (sizing : Sizing) where
  -- ---- sizes by one configuration

  module _ (config : SpannedConfig) where
    one-sizes-of : (own : Option OwnSizes) (widths heights across down : List ℕ) → AreSizesOf document sizing config own widths heights →
        AreSizesOf document sizing config own across down → (widths ≡ across) × (heights ≡ down)
    one-sizes-of None widths heights across down a b = (one-sizes sizing _ widths across a.widths b.widths, one-sizes sizing _ heights down a.heights b.heights)
    one-sizes-of (Some own) widths heights across down a b = (a.0 ∙ sym b.0, a.1 ∙ sym b.1)

    sized-or-not : (own : Option OwnSizes) (widths heights : List ℕ) (e : LayoutError) → IsRefusal (draw_error_of e) → AreSizesOf document sizing config own widths heights →
        AreNoSizesOf document sizing config own e → ⊥
    sized-or-not None widths heights e named are refused =
        sized-or-refused document.columns (document_texts document) sizing (spanned_grid config) widths heights e named are refused
    sized-or-not (Some own) widths heights e named are refused = are.2 refused.1

    one-no-sizes : (own : Option OwnSizes) (e f : LayoutError) → IsRefusal (draw_error_of e) → IsRefusal (draw_error_of f) → AreNoSizesOf document sizing config own e →
        AreNoSizesOf document sizing config own f → e ≡ f
    one-no-sizes None e f named other a b = one-error document.columns (document_texts document) sizing (spanned_grid config) e f named other a b
    one-no-sizes (Some own) e f named other a b = a.0 ∙ sym b.0

  -- ---- by two configurations that hold the same

  own-view : Grid → OwnSizes → TableView
  own-view grid own = sized_table grid own.widths.items own.heights.items (length own.heights.items, length own.widths.items)

  sizes-by : (x y : SpannedConfig) → spanned_grid x ≡ spanned_grid y → (own : Option OwnSizes) (widths heights : List ℕ) → AreSizesOf document sizing x own widths heights →
      AreSizesOf document sizing y own widths heights
  unfolding own-view
  sizes-by x y same None widths heights are = subst (λ grid. AreBothSizes grid text_measure document.columns (document_texts document) sizing widths heights) same are
  sizes-by x y same (Some own) widths heights are = (are.0, are.1, subst (λ grid. IsTotalTooLarge (own-view grid own) → ⊥) same are.2)

  no-sizes-by : (x y : SpannedConfig) → spanned_grid x ≡ spanned_grid y → (own : Option OwnSizes) (e : LayoutError) → AreNoSizesOf document sizing x own e →
      AreNoSizesOf document sizing y own e
  unfolding own-view
  no-sizes-by x y same None e are = subst (λ grid. IsBothRefused grid text_measure document.columns (document_texts document) sizing e) same are
  no-sizes-by x y same (Some own) e are = (are.0, subst (λ grid. IsTotalTooLarge (own-view grid own)) same are.1)

  module _ (x y : SpannedConfig) (same : HoldTheSameSettings x y) where
    same-grid : spanned_grid x ≡ spanned_grid y
    same-grid = ap spanned_grid same.but_overrides

    same-sizes : (d e : Drawing) (a : IsDocumentDrawingWith document sizing x d) (b : IsDocumentDrawingWith document sizing y e) → (a.widths ≡ b.widths) × (a.heights ≡ b.heights)
    same-sizes d e a b =
        one-sizes-of y document.sizes a.widths a.heights b.widths b.heights (sizes-by x y same-grid document.sizes a.widths a.heights a.sized) b.sized

    one-drawn : (d e : Drawing) → IsDocumentDrawingWith document sizing x d → IsDocumentDrawingWith document sizing y e → lined d ≡ lined e
    one-drawn d e a b =
        let one = document_drawing x document a.widths a.heights in
        let other = document_drawing y document b.widths b.heights in
        let sizes = same-sizes d e a b in
        let shape : one.shape ≡ other.shape = λ i. (length (sizes.1 i), length (sizes.0 i)) in
        ap lined a.is ∙ same-settings-lines one other same (ap slice_index sizes.0) (ap slice_index sizes.1) shape refl refl ∙ ap lined (sym b.is)

    same-fault : (d e : Drawing) → IsDocumentDrawingWith document sizing x d → IsDocumentDrawingWith document sizing y e → (f : DrawError) → IsDrawFault d f → IsDrawFault e f
    same-fault d e a b f fault =
        let moved = fault-there (document_drawing x document a.widths a.heights) x y same f (subst (λ k. IsDrawFault k f) a.is fault) in
        let sizes = same-sizes d e a b in
        let sized = subst (λ widths. IsDrawFault (document_drawing y document widths a.heights) f) sizes.0 moved in
        let both = subst (λ heights. IsDrawFault (document_drawing y document b.widths heights) f) sizes.1 sized in
        subst (λ k. IsDrawFault k f) (sym b.is) both

  module _ (x y : SpannedConfig) (same : HoldTheSameSettings x y) where
    never-unsized : (widths heights : List ℕ) (e : LayoutError) → IsRefusal (draw_error_of e) → AreSizesOf document sizing x document.sizes widths heights →
        AreNoSizesOf document sizing y document.sizes e → ⊥
    never-unsized widths heights e named are refused =
        sized-or-not y document.sizes widths heights e named (sizes-by x y (same-grid x y same) document.sizes widths heights are) refused

    drawn-or-faulty : (d : Drawing) (e : DrawError) → IsDocumentDrawingWith document sizing x d → IsDrawable d → IsRefusal e → IsDocumentFaultWith document sizing y e → ⊥
    drawn-or-faulty d e is drawable named (Unsized error at are) = never-unsized is.widths is.heights error (subst IsRefusal at named) is.sized are
    drawn-or-faulty d e is drawable named (Undrawn k drawn fault) = drawn-or-refused d e drawable named (same-fault y x (other-way x y same) k d drawn is e fault)

    one-fault : (e f : DrawError) → IsRefusal e → IsRefusal f → IsDocumentFaultWith document sizing x e → IsDocumentFaultWith document sizing y f → e ≡ f
    one-fault e f named other (Unsized one at are) (Unsized two to too) =
        at ∙ ap draw_error_of (one-no-sizes y document.sizes one two (subst IsRefusal at named) (subst IsRefusal to other) (no-sizes-by x y (same-grid x y same) document.sizes one are) too) ∙ sym to
    one-fault e f named other (Undrawn d is fault) (Undrawn k so why) = one-refusal k e f named other (same-fault x y same d k is so e fault) why
    one-fault e f named other (Unsized one at are) (Undrawn k so why) =
        absurd (sized-or-not y document.sizes so.widths so.heights one (subst IsRefusal at named) so.sized (no-sizes-by x y (same-grid x y same) document.sizes one are))
    one-fault e f named other (Undrawn d is fault) (Unsized two to too) = absurd (never-unsized is.widths is.heights two (subst IsRefusal to other) is.sized too)

  -- ---- by the settings of a document, where configurations that they make hold the same

  module _ (same : (x y : SpannedConfig) → HasSettingHistory document.settings.items x → HasSettingHistory document.settings.items y → HoldTheSameSettings x y) where
    pub one-document : (d e : Drawing) → IsDocumentDrawing document sizing d → IsDocumentDrawing document sizing e → lined d ≡ lined e
    one-document d e a b = one-drawn a.0 b.0 (same a.0 b.0 a.1 b.1) d e a.2 b.2

    pub document-or-none : (d : Drawing) (e : DrawError) → IsDocumentDrawing document sizing d → IsDrawable d → IsRefusal e → IsDocumentFault document sizing e → ⊥
    document-or-none d e a drawable named b = drawn-or-faulty a.0 b.0 (same a.0 b.0 a.1 b.1) d e a.2 drawable named b.2

    pub one-reason : (e f : DrawError) → IsRefusal e → IsRefusal f → IsDocumentFault document sizing e → IsDocumentFault document sizing f → e ≡ f
    one-reason e f named other a b = one-fault a.0 b.0 (same a.0 b.0 a.1 b.1) e f named other a.2 b.2
