-- The test of visibility says what the rectangles say.
use Rattle.std.proofs.Common.{◌≡◌, ℕ, Bool, true, false, ◌&&◌, List, [], ◌∷◌, ◌++◌, Option, Some, None, refl, sym, subst, ◌∙◌, arith, inl, inr, ⊎_elim}
use Rattle.std.specs.Prelude.{unwrap_or, not, is_some, ◌||◌, ◌≢◌, ◌↔◌, ◌⊎◌, IsTrue}
use Rattle.std.specs.List.{list_any}
use Rattle.std.specs.FinMap.{FinMap, get, keys, contains_key-keys}
use Rattle.std.proofs.lemmas.Bool.{false≢true, and_parts, and_from, or_right, leb-true, le-leb, ltb-true, lt-ltb}
use Rattle.std.proofs.lemmas.Map.Keys.{any_passes_from_place}
use Rattle.papergrid_values.specs.declared.direction.Direction.{Direction}
use Rattle.papergrid_values.specs.declared.direction.Direction.TheVariants.{Columns, Rows}
use Rattle.papergrid_values.specs.declared.position.Position.{Position}
use Rattle.papergrid_values.specs.MapKeys.{position_cmp, position_eq}
use Rattle.papergrid_maps.specs.Spans.{HasSpan, Spans, span_along, is_in_rectangle, IsVisible, IsInRectangle}
use Rattle.papergrid_maps.specs.ForProofs.VisibleSearch.{is_hidden_by, is_seen}
use Rattle.papergrid_values.proofs.AnyLemmas.{any_index}
use Rattle.papergrid_values.proofs.KeyLemmas.{exact_position_eq, position_ties, position_equiv}

-- the test of a rectangle
in_rectangle : (span : Direction → Position → ℕ) (anchor p : Position) → is_in_rectangle span anchor p ≡ true → IsInRectangle span anchor p
in_rectangle span anchor p h =
    let below = and_parts _ _ h in
    let above = and_parts _ _ below.1 in
    let right = and_parts _ _ above.1 in
    record {
      below_top = leb-true _ _ below.0;
      above_bottom = ltb-true _ _ above.0;
      after_left = leb-true _ _ right.0;
      before_right = ltb-true _ _ right.1;
    }

tests_rectangle : (span : Direction → Position → ℕ) (anchor p : Position) → IsInRectangle span anchor p → is_in_rectangle span anchor p ≡ true
tests_rectangle span anchor p within =
    and_from _ _ (le-leb _ _ within.below_top) (and_from _ _ (lt-ltb _ _ within.above_bottom)
    (and_from _ _ (le-leb _ _ within.after_left) (lt-ltb _ _ within.before_right)))

pub not_true : (b : Bool) → not b ≡ true → b ≡ true → ⊥
not_true true h e = false≢true h
not_true false h e = false≢true e

pub apart_by_test : (p q : Position) → p ≢ q → not (position_eq p q) ≡ true
apart_by_test p q apart =
    elim (position_eq p q) as (λ b. position_eq p q ≡ b → not b ≡ true) [
      | true ↦ λ e. absurd (apart (exact_position_eq p q e))
      | false ↦ λ e. refl
    ] refl

pub apart_from_test : (p q : Position) → not (position_eq p q) ≡ true → p ≢ q
apart_from_test p q h e = not_true (position_eq p q) h (subst (λ x. position_eq p x ≡ true) e (position_equiv.refl p))

any_append : {A : Type 0} (test : A → Bool) (xs ys : List A) → list_any test xs ≡ true → list_any test (xs ++ ys) ≡ true
any_append test [] ys h = absurd (false≢true h)
any_append test (x ∷ xs) ys h =
    elim (test x) as (λ b. (b || list_any test xs) ≡ true → (b || list_any test (xs ++ ys)) ≡ true) [ true ↦ λ h. refl | false ↦ any_append test xs ys ] h

any_prepend : {A : Type 0} (test : A → Bool) (xs ys : List A) → list_any test ys ≡ true → list_any test (xs ++ ys) ≡ true
any_prepend test [] ys h = h
any_prepend test (x ∷ xs) ys h = or_right (test x) _ (any_prepend test xs ys h)

-- a position whose span is stored is among the keys
among : (spans : FinMap position_cmp ℕ) (anchor : Position) (test : Position → Bool) → is_some (get spans anchor) ≡ true → test anchor ≡ true → list_any test (keys spans) ≡ true
among spans anchor test stored passes =
    let position = any_index _ (keys spans) (sym (contains_key-keys spans anchor) ∙ stored) in
    let same = exact_position_eq anchor position.1 (position_ties anchor position.1 ∙ position.3) in
    any_passes_from_place test (keys spans) position.0 position.1 position.2 (subst (λ q. test q ≡ true) same passes)

one_where_none : (o : Option ℕ) → (is_some o ≡ true → ⊥) → unwrap_or o 1 ≡ 1
one_where_none None h = refl
one_where_none (Some n) h = absurd (h refl)

stored_or_not : (o : Option ℕ) → (is_some o ≡ true) ⊎ (is_some o ≡ true → ⊥)
stored_or_not None = inr false≢true
stored_or_not (Some n) = inl refl

-- a position with no span hides no other one
hides_none : (spans : Spans) (anchor p : Position) → (is_some (get spans.columns anchor) ≡ true → ⊥) → (is_some (get spans.rows anchor) ≡ true → ⊥)
    → anchor ≢ p → IsInRectangle (span_along spans) anchor p → ⊥
hides_none spans anchor p narrow short apart within =
    let one_column : span_along spans Columns anchor ≡ 1 = one_where_none (get spans.columns anchor) narrow in
    let one_row : span_along spans Rows anchor ≡ 1 = one_where_none (get spans.rows anchor) short in
    let row : anchor.row ≡ p.row = omega (arith, one_row, within.below_top, within.above_bottom) in
    let col : anchor.col ≡ p.col = omega (arith, one_column, within.after_left, within.before_right) in
    apart (λ i. record { row = row i; col = col i })

pub visible_without_spans : (spans : Spans) (p : Position) → (HasSpan spans.columns → ⊥) → (HasSpan spans.rows → ⊥) → IsVisible (span_along spans) p
visible_without_spans spans p narrow short anchor = hides_none spans anchor p (λ stored. narrow (anchor, stored)) (λ stored. short (anchor, stored))

hides : (spans : Spans) (p anchor : Position) → anchor ≢ p → IsInRectangle (span_along spans) anchor p
    → is_hidden_by (span_along spans) (keys spans.columns ++ keys spans.rows) p ≡ true
hides spans p anchor apart within =
    let test : Position → Bool = λ q. not (position_eq q p) && is_in_rectangle (span_along spans) q p in
    let passes : test anchor ≡ true = and_from _ _ (apart_by_test anchor p apart) (tests_rectangle (span_along spans) anchor p within) in
    ⊎_elim (λ wide. any_append test (keys spans.columns) (keys spans.rows) (among spans.columns anchor test wide passes))
    (λ narrow. ⊎_elim (λ tall. any_prepend test (keys spans.columns) (keys spans.rows) (among spans.rows anchor test tall passes))
    (λ short. absurd (hides_none spans anchor p narrow short apart within))
    (stored_or_not (get spans.rows anchor)))
    (stored_or_not (get spans.columns anchor))

module _ (spans : Spans) (p : Position) where
  abbrev stored_anchors : List Position
  stored_anchors = keys spans.columns ++ keys spans.rows

  pub seen_visible : IsTrue (is_seen spans p) → IsVisible (span_along spans) p
  seen_visible h anchor apart within = not_true _ h (hides spans p anchor apart within)

  pub visible_seen : IsVisible (span_along spans) p → IsTrue (is_seen spans p)
  visible_seen visible =
      elim (is_hidden_by (span_along spans) stored_anchors p) as (λ b. is_hidden_by (span_along spans) stored_anchors p ≡ b → not b ≡ true) [
        | true ↦ λ hidden.
            let position = any_index (λ q. not (position_eq q p) && is_in_rectangle (span_along spans) q p) stored_anchors hidden in
            let parts = and_parts (not (position_eq position.1 p)) _ position.3 in
            absurd (visible position.1 (apart_from_test position.1 p parts.0) (in_rectangle (span_along spans) position.1 p parts.1))
        | false ↦ λ none. refl
      ] refl

  -- whether the position is visible, and that it is exactly there
  pub visible_test : (test : Bool) × (IsTrue test ↔ IsVisible (span_along spans) p)
  visible_test = (is_seen spans p, (seen_visible, visible_seen))
