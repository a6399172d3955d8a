-- What a walk reads of a configuration with settings as its history is what the settings decide.
use Rattle.std.proofs.Common.{◌≡◌, ◌∙◌, ◌≤◌, ◌&&◌, ℕ, Bool, true, false, List, [], ◌∷◌, ap, arith, inl, inr, nat_le, refl, subst, sym, rules}
use Rattle.std.specs.Prelude.{◌↔◌, IsTrue, flat_map, reverse, unwrap_or}
use Rattle.std.proofs.lemmas.Bool.{cases_Bool}
use Rattle.std.proofs.lemmas.Bool.Decides.{nat_tests}
use Rattle.papergrid_values.specs.MapKeys.{position_eq}
use Rattle.papergrid_values.proofs.ResultLemmas.{same_answer}
use Rattle.papergrid_values.specs.declared.position.Position.{Position}
use Rattle.papergrid_values.specs.declared.direction.Direction.{Direction}
use Rattle.papergrid_values.specs.declared.direction.Direction.TheVariants.{Columns, Rows}
use Rattle.papergrid_tables.specs.BorderParts.{HasLine, parts_from}
use Rattle.papergrid_tables.proofs.MadeTables.{border_history, borders_made_history}
use Rattle.papergrid_maps.specs.StoredMap.{stored_value}
use Rattle.papergrid_maps.specs.Grids.{Grid, size_after, size_before}
use Rattle.papergrid_maps.specs.Spans as spans
use Rattle.papergrid_maps.specs.Spans.{IsEffectiveSpan, IsVisible, RemoveSpans, SetSpan, SpanCall, Spans, from_two, is_same_direction, span_along}
use Rattle.papergrid_maps.proofs.SpanSearch.{effective_span, span_from}
use Rattle.papergrid_maps.proofs.EffectiveCallLemmas.{IsEffective-only, effective_value-IsEffective}
use Rattle.papergrid_maps.proofs.EffectiveSpanLemmas.{IsEffectiveSpan-only, effective_span-IsEffectiveSpan, spans_of_history}
use Rattle.papergrid_maps.proofs.MadeTables.{spans_made_history, span_history}
use Rattle.papergrid_maps.specs.ForProofs.SpanVisible.{visible_test}
use Rattle.papergrid_maps.proofs.StoredMapLemmas.{stored_effective}
use Rattle.papergrid_config.proofs.Made.{characters_of, grid_of, padding_of, spans_of}
use Rattle.papergrid_values.specs.Compact.{all_sides, spaces}
use Rattle.papergrid_maps.specs.EffectiveCall.{IsEffective}
use Rattle.papergrid_config.specs.Parts.{character_calls, padding_calls, span_calls}
use Rattle.papergrid_config.specs.History.{HasSettingHistory}
use Rattle.papergrid_config.specs.declared.setting.Setting.{Setting}
use Rattle.papergrid_config.specs.declared.spanned.SpannedConfig.{SpannedConfig}
use Rattle.papergrid_config.specs.Grids.{IsGridOf, spanned_grid}
use Rattle.papergrid_tables.specs.LineTests.{line_along}
use Rattle.papergrid_config.proofs.GridLemmas.{same_grid_by}

pub grid_told : (settings : List Setting) (config : SpannedConfig) → HasSettingHistory settings config → spanned_grid config ≡ grid_of settings
unfolding grid_of
grid_told settings config told =
    let spans_same = span_history (flat_map span_calls settings) config.spans told.spans in
    let lines_same = border_history (flat_map character_calls settings) config.characters told.characters in
    let padding_same : (p : Position) → stored_value config.padding p ≡ padding_of settings p = stored_effective _ _ _ told.padding in
    same_grid_by spans_same padding_same lines_same

-- ---- spans

span_from-some : (d : Direction) (p : Position) (calls : List SpanCall) → 1 ≤ span_from d p calls
span_from-some d p [] = omega arith
span_from-some d p (RemoveSpans e ∷ older) = elim (cases_Bool (is_same_direction e d)) [
  | inl t ↦ rw t (omega arith)
  | inr f ↦ rw f (span_from-some d p older)
]
span_from-some d p (SetSpan e q n ∷ older) = elim (cases_Bool (is_same_direction e d && (nat_le 1 n && position_eq q p))) [
  | inl t ↦ rw t (some (is_same_direction e d) (nat_le 1 n) (position_eq q p) refl t)
  | inr f ↦ rw f (span_from-some d p older)
]
  where
    some : (a b c : Bool) → nat_le 1 n ≡ b → (a && (b && c)) ≡ true → 1 ≤ n
    some true true c is t = grind (arith, nat_tests, is)
    some true false c is t = cc
    some false b c is t = cc

from_two-back : (n : ℕ) → 1 ≤ n → unwrap_or (from_two n) 1 ≡ n
from_two-back n least = grind arith

-- the span that is read where the calls are the history
pub span-effective : (calls : List SpanCall) (stored : Spans) → spans.HasSpanHistory calls stored → (direction : Direction) (p : Position) → span_along stored direction p ≡ effective_span direction p calls
span-effective calls stored told Columns p = ap (λ o. unwrap_or o 1) (spans_of_history calls stored told Columns p) ∙ from_two-back _ (span_from-some Columns p (reverse calls))
span-effective calls stored told Rows p = ap (λ o. unwrap_or o 1) (spans_of_history calls stored told Rows p) ∙ from_two-back _ (span_from-some Rows p (reverse calls))

-- ---- the grid

lines-decided : (settings : List Setting) (direction : Direction) (i count : ℕ) →
    IsTrue (line_along (characters_of settings) direction count i) ↔ HasLine direction (parts_from (reverse (flat_map character_calls settings))) i count
lines-decided settings direction i count = search (rules, characters_of, borders_made_history)

pub is-grid : (settings : List Setting) → IsGridOf settings (grid_of settings)
unfolding grid_of
is-grid settings = record {
  spans = λ direction p.
      let calls = flat_map span_calls settings in
      subst (IsEffectiveSpan direction p calls) (sym (span-effective calls (spans_of settings) (spans_made_history calls) direction p)) (effective_span-IsEffectiveSpan direction p calls);
  visible = λ p. (visible_test (spans_of settings) p).1;
  padding = λ p sides is direction.
      let same = IsEffective-only (flat_map padding_calls settings) (all_sides (spaces 0)) p sides is in
      (ap (size_before direction) (sym same), ap (size_after direction) (sym same));
  lines = lines-decided settings;
}

-- settings decide one grid
pub one-grid : (settings : List Setting) (grid other : Grid) → IsGridOf settings grid → IsGridOf settings other → grid ≡ other
one-grid settings grid other is also =
    let span : (direction : Direction) (p : Position) → grid.span direction p ≡ other.span direction p =
    λ direction p. IsEffectiveSpan-only direction p _ _ (is.spans direction p) ∙ sym (IsEffectiveSpan-only direction p _ _ (also.spans direction p)) in
    let sides : (p : Position) → IsEffective (flat_map padding_calls settings) (all_sides (spaces 0)) p (padding_of settings p) = effective_value-IsEffective (flat_map padding_calls settings) (all_sides (spaces 0)) in
    let spans : grid.span ≡ other.span = λ i direction p. span direction p i in
    let shows : (p : Position) → grid.shows p ≡ other.shows p = λ p. same_answer _ _ (subst (λ s. IsTrue (grid.shows p) ↔ IsVisible s p) spans (is.visible p)) (also.visible p) in
    let draws : (direction : Direction) (count i : ℕ) → grid.draws direction count i ≡ other.draws direction count i = λ direction count i. same_answer _ _ (is.lines direction i count) (also.lines direction i count) in
    λ k. record {
      shows = λ p. shows p k;
      span = λ direction p. span direction p k;
      before = λ direction p. ((is.padding p _ (sides p) direction).0 ∙ sym (also.padding p _ (sides p) direction).0) k;
      after = λ direction p. ((is.padding p _ (sides p) direction).1 ∙ sym (also.padding p _ (sides p) direction).1) k;
      draws = λ direction count i. draws direction count i k;
    }

pub grid-decided : (settings : List Setting) (config : SpannedConfig) → HasSettingHistory settings config → IsGridOf settings (spanned_grid config)
grid-decided settings config told = subst (IsGridOf settings) (sym (grid_told settings config told)) (is-grid settings)

pub grid_covers : (settings : List Setting) (grid : Grid) → IsGridOf settings grid → (direction : Direction) (p : Position) → 1 ≤ grid.span direction p
grid_covers settings grid is direction p = subst (λ n. 1 ≤ n) (sym (IsEffectiveSpan-only direction p _ _ (is.spans direction p))) (span_from-some direction p (reverse (flat_map span_calls settings)))
