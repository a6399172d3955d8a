-- What settings of single crossings leave of a configuration.
use Rattle.std.proofs.Common.{◌≡◌, ◌∙◌, ap, sym, subst, refl, inl, inr, ℕ, ◌⊎◌, Bool, true, false, cond, List, [], ◌∷◌, ◌++◌, map, reverse, Option, Some, None, append_assoc, append-nil, arith}
use Rattle.std.specs.Prelude.{◌↔◌, All, IsSome, IsTrue, if◌then◌else◌}
use Rattle.std.specs.List.{AllByRecursion, flat_map}
use Rattle.std.specs.Option.{option_or}
use Rattle.std.proofs.lemmas.Grind.{flat_map-append}
use Rattle.std.proofs.lemmas.List.{reverse-append}
use Rattle.std.proofs.lemmas.List.Elements.{All-tail}
use Rattle.std.proofs.lemmas.Option.{none-some}
use Rattle.papergrid_values.specs.MapKeys.{position_eq}
use Rattle.papergrid_values.specs.declared.alignment.AlignmentHorizontal.TheVariants.{Left}
use Rattle.papergrid_values.specs.declared.alignment.AlignmentVertical.TheVariants.{Top}
use Rattle.papergrid_values.specs.declared.offset.Offset.TheVariants.{Start}
use Rattle.papergrid_values.specs.Borders.{border_parts}
use Rattle.papergrid_values.specs.declared.border.Border.{Border}
use Rattle.papergrid_values.specs.Compact.{all_sides, spaces}
use Rattle.papergrid_values.specs.Positions.{along}
use Rattle.papergrid_values.specs.declared.direction.Direction.{Direction}
use Rattle.papergrid_values.specs.declared.direction.Direction.TheVariants.{Columns, Rows}
use Rattle.papergrid_values.specs.declared.position.Position.{Position}
use Rattle.papergrid_values.proofs.KeyLemmas.{exact_position_eq}
use Rattle.papergrid_values.proofs.ResultLemmas.{same_answer}
use Rattle.papergrid_tables.specs.BorderCalls.{BorderCall, InsertBorder, below, right_of}
use Rattle.papergrid_tables.specs.BorderParts.{BorderParts, StandsOn, found_intersection, parts_after_call, parts_from, HasLine}
use Rattle.papergrid_tables.specs.LineTests.{line_along}
use Rattle.papergrid_tables.specs.Overrides as overrides
use Rattle.papergrid_tables.specs.StoredBorders.{parts_of_borders}
use Rattle.papergrid_tables.specs.ForProofs.LineTested.{line_test}
use Rattle.papergrid_tables.proofs.MadeTables.{border_history}
use Rattle.papergrid_tables.proofs.Made.{borders_made}
use Rattle.papergrid_maps.proofs.Made.{spans_made}
use Rattle.papergrid_maps.specs.StoredMap as maps
use Rattle.papergrid_maps.specs.StoredMap.{Stored}
use Rattle.papergrid_maps.specs.declared.entity_map.MapCall.{MapCall}
use Rattle.papergrid_maps.proofs.HistoryEqual.{history_same}
use Rattle.papergrid_maps.proofs.MadeTables.{span_history}
use Rattle.papergrid_config.specs.History.{HasSettingHistory, newest_or}
use Rattle.papergrid_config.specs.Parts.{padding_calls, padding_color_calls, trim_horizontal_calls, trim_vertical_calls, line_alignment_calls, alignment_horizontal_calls, alignment_vertical_calls, justification_calls, justification_color_calls, character_calls, color_calls, horizontal_char_calls, vertical_char_calls, horizontal_color_calls, vertical_color_calls, span_calls, margins, margin_colors, margin_offsets, missing_characters}
use Rattle.papergrid_config.specs.declared.setting.Setting.{Setting}
use Rattle.papergrid_config.specs.declared.spanned.SpannedConfig.{SpannedConfig}
use Rattle.papergrid_draw.specs.Crossings.{BecomesBy, DifferInCrossings, corner_border, crossing_setting}
use Rattle.papergrid_draw.specs.ForProofs.Crossings.{IsMark, mark_at}
use Rattle.papergrid_draw.specs.declared.crossings.Junctions.{Junctions}

-- a border each of whose parts is this
pub same_border : {T : Type 0} (part : Option T) (border : Border T) → AllByRecursion (λ it. it ≡ part) (border_parts border) → border ≡ record {
  top = part;
  bottom = part;
  left = part;
  right = part;
  left_top_corner = part;
  left_bottom_corner = part;
  right_top_corner = part;
  right_bottom_corner = part;
}
same_border part border each = λ i. record {
  top = each.0 i;
  bottom = each.1.0 i;
  left = each.1.1.0 i;
  right = each.1.1.1.0 i;
  left_top_corner = each.1.1.1.1.0 i;
  left_bottom_corner = each.1.1.1.1.1.0 i;
  right_top_corner = each.1.1.1.1.1.1.0 i;
  right_bottom_corner = each.1.1.1.1.1.1.1.0 i;
}

-- ---- the character at a position

or-none : {A : Type 0} (a : Option A) → a ≡ option_or a None
or-none None = refl
or-none (Some x) = refl

pub or-again : {A : Type 0} (a b c : Option A) → option_or (option_or a b) c ≡ option_or a (option_or b c)
or-again None b c = refl
or-again (Some x) b c = refl

-- that of one mark
abbrev pub its_mark : Position × ℕ → Position → Option ℕ
its_mark mark p = if position_eq mark.0 p then Some mark.1 else None

pub mark_at-push : (marks : List (Position × ℕ)) (mark : Position × ℕ) (p : Position) →
    mark_at (marks ++ mark ∷ []) p ≡ option_or (its_mark mark p) (mark_at marks p)
mark_at-push [] mark p = or-none (its_mark mark p)
mark_at-push (m ∷ marks) mark p =
    ap (λ o. option_or o (its_mark m p)) (mark_at-push marks mark p) ∙ or-again (its_mark mark p) (mark_at marks p) (its_mark m p)

-- a position with a character has a mark
module _ (P : Position × ℕ → Type 0) where
  abbrev MarkOf : Position → Type 0
  MarkOf p = (mark : Position × ℕ) × P mark × (mark.0 ≡ p)

  its-mark : (mark : Position × ℕ) (p : Position) (character : ℕ) → P mark → its_mark mark p ≡ Some character → MarkOf p
  its-mark mark p character holds is =
      elim (position_eq mark.0 p) as (λ b. position_eq mark.0 p ≡ b → cond b (Some mark.1) None ≡ Some character → MarkOf p) [
        | true ↦ λ same _. (mark, holds, exact_position_eq mark.0 p same)
        | false ↦ λ _ none. absurd (none-some character none)
      ] refl is

  pub marked : (marks : List (Position × ℕ)) (p : Position) (character : ℕ) → All P marks → mark_at marks p ≡ Some character → MarkOf p
  marked [] p character all is = absurd (none-some character is)
  marked (m ∷ marks) p character all is =
      elim (mark_at marks p) as (λ o. mark_at marks p ≡ o → option_or o (its_mark m p) ≡ Some character → MarkOf p) [
        | None ↦ λ _ own. its-mark m p character (all 0 m (omega arith)) own
        | Some other ↦ λ later _. marked marks p other (All-tail P m marks all) later
      ] refl is

-- ---- the parts that are left

-- the parts with these marks
abbrev pub with_marks : List (Position × ℕ) → BorderParts ℕ → BorderParts ℕ
with_marks marks old = record old { corner = λ p. option_or (mark_at marks p) (old.corner p) }

no-edge : (a b : Bool) (o : Option ℕ) → option_or (option_or (cond a None None) (cond b None None)) o ≡ o
no-edge true true o = refl
no-edge true false o = refl
no-edge false true o = refl
no-edge false false o = refl

no-corner : (b c d : Bool) → option_or (cond {A = Option ℕ} b None None) (option_or (cond c None None) (cond d None None)) ≡ None
no-corner true true true = refl
no-corner true true false = refl
no-corner true false true = refl
no-corner true false false = refl
no-corner false true true = refl
no-corner false true false = refl
no-corner false false true = refl
no-corner false false false = refl

own-corner : (a b c d : Bool) (x : ℕ) (o : Option ℕ) →
    option_or (option_or (cond a (Some x) None) (option_or (cond b None None) (option_or (cond c None None) (cond d None None)))) o
    ≡ option_or (cond a (Some x) None) o
own-corner true b c d x o = refl
own-corner false b c d x o = ap (λ n. option_or n o) (no-corner b c d)

after-mark : (mark : Position × ℕ) (old : BorderParts ℕ) →
    parts_after_call (InsertBorder mark.0 (corner_border mark.1)) old ≡ with_marks (mark ∷ []) old
after-mark mark old = λ i. record old {
  horizontal_edge = λ p. no-edge (position_eq mark.0 p) (position_eq (below mark.0) p) (old.horizontal_edge p) i;
  vertical_edge = λ p. no-edge (position_eq mark.0 p) (position_eq (right_of mark.0) p) (old.vertical_edge p) i;
  corner = λ p. own-corner (position_eq mark.0 p) (position_eq (right_of mark.0) p) (position_eq (below mark.0) p)
      (position_eq (below (right_of mark.0)) p) mark.1 (old.corner p) i;
}

parts-marked : (marks : List (Position × ℕ)) (calls : List (BorderCall ℕ)) →
    parts_from (reverse (calls ++ flat_map character_calls (map crossing_setting marks))) ≡ with_marks marks (parts_from (reverse calls))
parts-marked [] calls = ap (λ list. parts_from (reverse list)) (append-nil calls)
parts-marked (m ∷ marks) calls =
    let call : BorderCall ℕ = InsertBorder m.0 (corner_border m.1) in
    let old : BorderParts ℕ = parts_from (reverse calls) in
    let rest = flat_map character_calls (map crossing_setting marks) in
    let one : parts_from (reverse (calls ++ call ∷ [])) ≡ with_marks (m ∷ []) old = ap parts_from (reverse-append calls (call ∷ [])) ∙ after-mark m old in
    let twice : with_marks marks (with_marks (m ∷ []) old) ≡ with_marks (m ∷ marks) old =
    λ i. record old { corner = λ p. sym (or-again (mark_at marks p) (its_mark m p) (old.corner p)) i } in
    ap (λ list. parts_from (reverse list)) (sym (append_assoc calls (call ∷ []) rest)) ∙ parts-marked marks (calls ++ call ∷ [])
    ∙ ap (with_marks marks) one ∙ twice

some-or : {A : Type 0} (a b : Option A) → IsSome b → IsSome (option_or a b)
some-or None b some = some
some-or (Some x) b some = refl

-- the last of six cases
module _ {A B C D E K L : Type 0} where
  last-of : (K → A ⊎ (B ⊎ (C ⊎ (D ⊎ (E ⊎ L))))) → A ⊎ (B ⊎ (C ⊎ (D ⊎ (E ⊎ K)))) → A ⊎ (B ⊎ (C ⊎ (D ⊎ (E ⊎ L))))
  last-of f (inl a) = inl a
  last-of f (inr (inl b)) = inr (inl b)
  last-of f (inr (inr (inl c))) = inr (inr (inl c))
  last-of f (inr (inr (inr (inl d)))) = inr (inr (inr (inl d)))
  last-of f (inr (inr (inr (inr (inl e))))) = inr (inr (inr (inr (inl e))))
  last-of f (inr (inr (inr (inr (inr k))))) = f k

module _ (old new : SpannedConfig) (marks : List (Position × ℕ)) (becomes : BecomesBy old new (map crossing_setting marks)) where
  abbrev after : List Setting
  after = becomes.history ++ map crossing_setting marks

  told : HasSettingHistory after new
  told = becomes.appends becomes.history becomes.told

  pub parts-new : parts_of_borders new.characters ≡ with_marks marks (parts_of_borders old.characters)
  parts-new =
      told.characters ∙ ap (λ list. parts_from (reverse list)) (flat_map-append character_calls becomes.history (map crossing_setting marks))
      ∙ parts-marked marks (flat_map character_calls becomes.history) ∙ ap (with_marks marks) (sym becomes.told.characters)

  -- ---- the other parts of the configuration

  no-calls : {C : Type 0} (calls : Setting → List C) → ((mark : Position × ℕ) → calls (crossing_setting mark) ≡ []) →
      flat_map calls after ≡ flat_map calls becomes.history
  no-calls calls none =
      flat_map-append calls becomes.history (map crossing_setting marks) ∙ ap (λ list. flat_map calls becomes.history ++ list) (all marks)
      ∙ append-nil (flat_map calls becomes.history)
    where
      all : (list : List (Position × ℕ)) → flat_map calls (map crossing_setting list) ≡ []
      all [] = refl
      all (m ∷ list) = ap (λ front. front ++ flat_map calls (map crossing_setting list)) (none m) ∙ all list

  same-map : {T : Type 0} (given : T) (calls : Setting → List (MapCall T)) → ((mark : Position × ℕ) → calls (crossing_setting mark) ≡ []) →
      (m n : Stored T) → maps.HasMapHistory given (flat_map calls after) m → maps.HasMapHistory given (flat_map calls becomes.history) n → m ≡ n
  same-map given calls none m n later history =
      history_same given (flat_map calls becomes.history) m n (subst (λ list. maps.HasMapHistory given list m) (no-calls calls none) later) history

  same-value : {T : Type 0} (given : T) (values : Setting → List T) → ((mark : Position × ℕ) → values (crossing_setting mark) ≡ []) →
      {v w : T} → v ≡ newest_or given (reverse (flat_map values after)) → w ≡ newest_or given (reverse (flat_map values becomes.history)) → v ≡ w
  same-value given values none later history =
      later ∙ ap (λ list. newest_or given (reverse list)) (no-calls values none) ∙ sym history

  pub missing-same : new.missing ≡ old.missing
  missing-same = same-value 32 missing_characters (λ _. refl) told.missing becomes.told.missing

  pub differ : DifferInCrossings old new
  differ = record {
    others = record {
      but_overrides = λ i. record {
        alloc = new.alloc;
        padding = same-map (all_sides (spaces 0)) padding_calls (λ _. refl) new.padding old.padding told.padding becomes.told.padding i;
        padding_color = same-map (all_sides None) padding_color_calls (λ _. refl) new.padding_color old.padding_color told.padding_color becomes.told.padding_color i;
        trim_horizontal = same-map false trim_horizontal_calls (λ _. refl) new.trim_horizontal old.trim_horizontal told.trim_horizontal becomes.told.trim_horizontal i;
        trim_vertical = same-map false trim_vertical_calls (λ _. refl) new.trim_vertical old.trim_vertical told.trim_vertical becomes.told.trim_vertical i;
        line_alignment = same-map false line_alignment_calls (λ _. refl) new.line_alignment old.line_alignment told.line_alignment becomes.told.line_alignment i;
        alignment_horizontal = same-map Left alignment_horizontal_calls (λ _. refl) new.alignment_horizontal old.alignment_horizontal told.alignment_horizontal becomes.told.alignment_horizontal i;
        alignment_vertical = same-map Top alignment_vertical_calls (λ _. refl) new.alignment_vertical old.alignment_vertical told.alignment_vertical becomes.told.alignment_vertical i;
        justification = same-map 32 justification_calls (λ _. refl) new.justification old.justification told.justification becomes.told.justification i;
        justification_color = same-map None justification_color_calls (λ _. refl) new.justification_color old.justification_color told.justification_color becomes.told.justification_color i;
        characters = old.characters;
        colors = (border_history (flat_map color_calls after) new.colors told.colors ∙ ap borders_made (no-calls color_calls (λ _. refl)) ∙ sym (border_history (flat_map color_calls becomes.history) old.colors becomes.told.colors)) i;
        horizontal_chars = new.horizontal_chars;
        vertical_chars = new.vertical_chars;
        horizontal_colors = new.horizontal_colors;
        vertical_colors = new.vertical_colors;
        spans = (span_history (flat_map span_calls after) new.spans told.spans ∙ ap spans_made (no-calls span_calls (λ _. refl)) ∙ sym (span_history (flat_map span_calls becomes.history) old.spans becomes.told.spans)) i;
        margin = same-value (all_sides (spaces 0)) margins (λ _. refl) told.margin becomes.told.margin i;
        margin_color = same-value (all_sides None) margin_colors (λ _. refl) told.margin_color becomes.told.margin_color i;
        margin_offset = same-value (all_sides (Start 0)) margin_offsets (λ _. refl) told.margin_offset becomes.told.margin_offset i;
        missing = missing-same i;
      };
      horizontal_chars = λ i p o. (told.horizontal_chars p o ∙ ap (λ list. overrides.overrides_from (reverse list) p o) (no-calls horizontal_char_calls (λ _. refl)) ∙ sym (becomes.told.horizontal_chars p o)) i;
      vertical_chars = λ i p o. (told.vertical_chars p o ∙ ap (λ list. overrides.overrides_from (reverse list) p o) (no-calls vertical_char_calls (λ _. refl)) ∙ sym (becomes.told.vertical_chars p o)) i;
      horizontal_colors = λ i p o. (told.horizontal_colors p o ∙ ap (λ list. overrides.overrides_from (reverse list) p o) (no-calls horizontal_color_calls (λ _. refl)) ∙ sym (becomes.told.horizontal_colors p o)) i;
      vertical_colors = λ i p o. (told.vertical_colors p o ∙ ap (λ list. overrides.overrides_from (reverse list) p o) (no-calls vertical_color_calls (λ _. refl)) ∙ sym (becomes.told.vertical_colors p o)) i;
    };
    parts = λ i. record {
      global = (parts-new i).global;
      frame = (parts-new i).frame;
      horizontal_line = (parts-new i).horizontal_line;
      vertical_line = (parts-new i).vertical_line;
      horizontal_edge = (parts-new i).horizontal_edge;
      vertical_edge = (parts-new i).vertical_edge;
      corner = (parts_of_borders new.characters).corner;
    };
  }

  -- the character that is found at a crossing
  pub found-new : (p : Position) (rows cols : ℕ) →
      found_intersection (parts_of_borders new.characters) p rows cols ≡ option_or (mark_at marks p) (found_intersection (parts_of_borders old.characters) p rows cols)
  found-new p rows cols =
      ap (λ parts. found_intersection parts p rows cols) parts-new ∙ or-again (mark_at marks p) ((parts_of_borders old.characters).corner p) _

  -- ---- lines

  abbrev parts : BorderParts ℕ
  parts = parts_of_borders old.characters

  -- what stood on a line still does
  stands-on : (direction : Direction) (n : ℕ) → StandsOn direction n parts.corner → StandsOn direction n (with_marks marks parts).corner
  stands-on direction n stands = (stands.0, stands.1, some-or (mark_at marks stands.0) (parts.corner stands.0) stands.2)

  module _ (shape : ℕ × ℕ) (junctions : Junctions) (each : All (IsMark old shape junctions) marks) where
    abbrev MarkOn : Direction → ℕ → Type 0
    MarkOn direction n = (mark : Position × ℕ) × IsMark old shape junctions mark × (along direction mark.0 ≡ n)

    -- and what stands there stood there, or is marked
    stood-on : (direction : Direction) (n : ℕ) → StandsOn direction n (with_marks marks parts).corner → StandsOn direction n parts.corner ⊎ MarkOn direction n
    stood-on direction n stands =
        let p = stands.0 in
        elim (mark_at marks p) as (λ o. mark_at marks p ≡ o → IsSome (option_or o (parts.corner p)) → StandsOn direction n parts.corner ⊎ MarkOn direction n) [
          | None ↦ λ _ some. inl (p, stands.1, some)
          | Some character ↦ λ is _. (let found = marked (IsMark old shape junctions) marks p character each is in
              inr (found.0, found.1, ap (along direction) found.2 ∙ stands.1))
        ] refl stands.2

    pub vertical-same : (n : ℕ) → line_along new.characters Columns shape.1 n ≡ line_along old.characters Columns shape.1 n
    vertical-same n =
        let now = subst (λ places. IsTrue (line_along new.characters Columns shape.1 n) ↔ HasLine Columns places n shape.1) parts-new (line_test new.characters Columns shape.1 n).1 in
        same_answer (line_along new.characters Columns shape.1 n) (line_along old.characters Columns shape.1 n)
        ((λ yes. last-of before (now.0 yes)), (λ has. now.1 (last-of (λ stands. inr (inr (inr (inr (inr (stands-on Columns n stands)))))) has)))
        (line_test old.characters Columns shape.1 n).1
      where
        before : StandsOn Columns n (with_marks marks parts).corner → HasLine Columns parts n shape.1
        before stands = elim (stood-on Columns n stands) [
          | inl stood ↦ inr (inr (inr (inr (inr stood))))
          | inr found ↦ subst (λ m. HasLine Columns parts m shape.1) found.2 ((line_test old.characters Columns shape.1 found.0.0.col).1.0 found.1.unfit.seen.vertical)
        ]

    pub horizontal-same : (n : ℕ) → line_along new.characters Rows shape.0 n ≡ line_along old.characters Rows shape.0 n
    horizontal-same n =
        let now = subst (λ places. IsTrue (line_along new.characters Rows shape.0 n) ↔ HasLine Rows places n shape.0) parts-new (line_test new.characters Rows shape.0 n).1 in
        same_answer (line_along new.characters Rows shape.0 n) (line_along old.characters Rows shape.0 n)
        ((λ yes. last-of before (now.0 yes)), (λ has. now.1 (last-of (λ stands. inr (inr (inr (inr (inr (stands-on Rows n stands)))))) has)))
        (line_test old.characters Rows shape.0 n).1
      where
        before : StandsOn Rows n (with_marks marks parts).corner → HasLine Rows parts n shape.0
        before stands = elim (stood-on Rows n stands) [
          | inl stood ↦ inr (inr (inr (inr (inr stood))))
          | inr found ↦ subst (λ m. HasLine Rows parts m shape.0) found.2 ((line_test old.characters Rows shape.0 found.0.0.row).1.0 found.1.unfit.seen.horizontal)
        ]
