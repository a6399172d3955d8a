-- What the settings of a request make of the parts of a configuration, with settings of crossings behind them.
use Rattle.std.proofs.Common.{◌≡◌, ◌∙◌, ℕ, Bool, true, false, List, [], ◌∷◌, ◌++◌, All, Option, Some, None, ap, append-nil, flat_map, length, map, refl, subst, sym, cond}
use Rattle.std.specs.Prelude.{nat_lt}
use Rattle.std.proofs.lemmas.Grind.{flat_map-append}
use Rattle.std.proofs.lemmas.List.Elements.{All-head, All-nil, All-tail}
use Rattle.papergrid_values.specs.declared.alignment.AlignmentHorizontal.{AlignmentHorizontal}
use Rattle.papergrid_values.specs.declared.alignment.AlignmentVertical.{AlignmentVertical}
use Rattle.papergrid_values.specs.declared.border.Border.{Border}
use Rattle.papergrid_values.specs.declared.entity.Entity.{Entity}
use Rattle.papergrid_values.specs.declared.entity.Entity.TheVariants.{Global}
use Rattle.papergrid_values.specs.declared.horizontal_line.HorizontalLine.{HorizontalLine}
use Rattle.papergrid_values.specs.declared.position.Position.{Position}
use Rattle.papergrid_maps.specs.declared.entity_map.MapCall.TheVariants.{Insert}
use Rattle.papergrid_config.proofs.Made.{characters_of, padding_of}
use Rattle.papergrid_config.specs.Parts.{character_calls, margins, padding_calls, span_calls}
use Rattle.papergrid_config.specs.declared.setting.Setting.{Setting}
use Rattle.papergrid_config.specs.declared.setting.Setting.TheVariants.{InsertHorizontalLine, SetAlignmentHorizontal, SetAlignmentVertical, SetBorder, SetBorders, SetPadding}
use Rattle.papergrid_config.specs.declared.spanned.SpannedConfig.{SpannedConfig}
use Rattle.papergrid_tables.specs.BorderCalls as lines
use Rattle.papergrid_tables.proofs.Made.{borders_made}
use Rattle.papergrid_draw.specs.Crossings.{corner_border, crossing_setting}
use Rattle.papergrid_draw.specs.declared.crossings.Junctions.{Junctions}
use Rattle.papergrid_csv.specs.Pictures.{AreFitted}
use Rattle.papergrid_csv.specs.Requests.{head_line, settings_of, span_settings}
use Rattle.papergrid_csv.specs.declared.request.Request.{Request}
use Rattle.papergrid_csv.proofs.RequestLemmas.{others, others-all, spans-all}

none-made : {X : Type 0} (part : Setting → List X) (settings : List Setting) → All (λ s. part s ≡ []) settings → flat_map part settings ≡ []
none-made part [] all = refl
none-made part (s ∷ settings) all =
    let first = All-head (λ s. part s ≡ []) s settings all in
    rw first (none-made part settings (All-tail (λ s. part s ≡ []) s settings all))

-- settings of crossings make nothing of a part that borders of cells are not of
crossings-none : {X : Type 0} (part : Setting → List X) → ((p : Position) (b : Border ℕ) → part (SetBorder p b) ≡ []) → (crossings : List (Position × ℕ)) →
    flat_map part (map crossing_setting crossings) ≡ []
crossings-none part none [] = refl
crossings-none part none (crossing ∷ crossings) = rw (none crossing.0 (corner_border crossing.1)) (crossings-none part none crossings)

-- nor do settings that fit crossings, if there are any
pub fitted-none : {X : Type 0} (part : Setting → List X) → ((p : Position) (b : Border ℕ) → part (SetBorder p b) ≡ []) → (junctions : Option Junctions) (settings : List Setting) (shape : ℕ × ℕ) (config : SpannedConfig) (fitted : List Setting) →
    AreFitted junctions settings shape config fitted → flat_map part fitted ≡ []
fitted-none part none None settings shape config fitted are = ap (flat_map part) are
fitted-none part none (Some junctions) settings shape config fitted are = ap (flat_map part) are.2.are ∙ crossings-none part none are.2.crossings

module _ {X : Type 0} (part : Setting → List X) (request : Request) (columns : ℕ) (rows : List (List (List ℕ)))
    (none : flat_map part (others request columns rows) ≡ []) where
  -- of the frame, of the head line and of the padding
  parts-are : flat_map part (settings_of request columns rows)
      ≡ part (SetBorders request.frame) ++ (flat_map part (head_line request.head (length rows)) ++ part (SetPadding Global request.padding))
  parts-are =
      ap (λ l. part (SetBorders request.frame) ++ l)
      (flat_map-append part (head_line request.head (length rows)) (SetPadding Global request.padding ∷ others request columns rows)
      ∙ ap (λ l. flat_map part (head_line request.head (length rows)) ++ (part (SetPadding Global request.padding) ++ l)) none
      ∙ ap (λ l. flat_map part (head_line request.head (length rows)) ++ l) (append-nil (part (SetPadding Global request.padding))))

module _ (request : Request) (columns : ℕ) (rows : List (List (List ℕ))) where
  -- alignments and spans make nothing of other parts
  others-none : {X : Type 0} (part : Setting → List X) → ((entity : Entity) (alignment : AlignmentHorizontal) → part (SetAlignmentHorizontal entity alignment) ≡ []) →
      ((entity : Entity) (alignment : AlignmentVertical) → part (SetAlignmentVertical entity alignment) ≡ []) → All (λ s. part s ≡ []) (flat_map span_settings request.spans.items) →
      flat_map part (others request columns rows) ≡ []
  others-none part aligned vertical spans = none-made part (others request columns rows) (others-all (λ s. part s ≡ []) aligned vertical request columns rows spans)

  head-none : {X : Type 0} (part : Setting → List X) → ((row : ℕ) (line : HorizontalLine ℕ) → part (InsertHorizontalLine row line) ≡ []) → (head : Option (HorizontalLine ℕ)) →
      flat_map part (head_line head (length rows)) ≡ []
  head-none part none None = refl
  head-none part none (Some line) = by (nat_lt 1 (length rows))
    where
      by : (b : Bool) → flat_map part (cond b (InsertHorizontalLine 1 line ∷ []) []) ≡ []
      by true = let first = none 1 line in rw first refl
      by false = refl

  -- no spans are set where none are asked for
  pub no-spans : request.spans.items ≡ [] → flat_map span_calls (settings_of request columns rows) ≡ []
  no-spans empty =
      let head = head-none span_calls (λ _ _. refl) request.head in
      let spans : All (λ s. span_calls s ≡ []) (flat_map span_settings request.spans.items) =
      subst (λ l. All (λ s. span_calls s ≡ []) (flat_map span_settings l)) (sym empty) (All-nil (λ s. span_calls s ≡ [])) in
      parts-are span_calls request columns rows (others-none span_calls (λ _ _. refl) (λ _ _. refl) spans) ∙ rw head refl

  -- further settings that make nothing of a part leave it
  with-fitted : {X : Type 0} (part : Setting → List X) (fitted : List Setting) → flat_map part fitted ≡ [] → flat_map part (settings_of request columns rows ++ fitted) ≡ flat_map part (settings_of request columns rows)
  with-fitted part fitted none =
      flat_map-append part (settings_of request columns rows) fitted
      ∙ ap (λ l. flat_map part (settings_of request columns rows) ++ l) none
      ∙ append-nil (flat_map part (settings_of request columns rows))

  -- no margins are
  pub no-margins : (fitted : List Setting) → flat_map margins fitted ≡ [] → flat_map margins (settings_of request columns rows ++ fitted) ≡ []
  no-margins fitted none =
      let head = head-none margins (λ _ _. refl) request.head in
      with-fitted margins fitted none
      ∙ parts-are margins request columns rows (others-none margins (λ _ _. refl) (λ _ _. refl) (spans-all (λ s. margins s ≡ []) (λ _ _. refl) (λ _ _. refl) request.spans.items)) ∙ rw head refl

  -- one padding is
  paddings-are : flat_map padding_calls (settings_of request columns rows) ≡ Insert Global request.padding ∷ []
  paddings-are =
      let head = head-none padding_calls (λ _ _. refl) request.head in
      parts-are padding_calls request columns rows (others-none padding_calls (λ _ _. refl) (λ _ _. refl) (spans-all (λ s. padding_calls s ≡ []) (λ _ _. refl) (λ _ _. refl) request.spans.items)) ∙ rw head refl

  pub padding-of : (fitted : List Setting) → flat_map padding_calls fitted ≡ [] → (p : Position) → padding_of (settings_of request columns rows ++ fitted) p ≡ request.padding
  padding-of fitted none p =
      let are : flat_map padding_calls (settings_of request columns rows ++ fitted) ≡ Insert Global request.padding ∷ [] = with-fitted padding_calls fitted none ∙ paddings-are in
      rw are refl

  -- the frame stays
  pub frame-of : (characters_of (settings_of request columns rows)).frame ≡ request.frame
  frame-of =
      let are = parts-are character_calls request columns rows (others-none character_calls (λ _ _. refl) (λ _ _. refl) (spans-all (λ s. character_calls s ≡ []) (λ _ _. refl) (λ _ _. refl) request.spans.items)) in
      rw are (by request.head)
    where
      kept : (b : Bool) (line : HorizontalLine ℕ) →
          (borders_made (lines.SetBorders request.frame ∷ (flat_map character_calls (cond b (InsertHorizontalLine 1 line ∷ []) []) ++ []))).frame ≡ request.frame
      kept true line = refl
      kept false line = refl

      by : (head : Option (HorizontalLine ℕ)) → (borders_made (lines.SetBorders request.frame ∷ (flat_map character_calls (head_line head (length rows)) ++ []))).frame ≡ request.frame
      by None = refl
      by (Some line) = kept (nat_lt 1 (length rows)) line
