-- What the positions that a rectangle covers say of visibility.
use Rattle.std.proofs.Common.{◌≡◌, ℕ, ◌+◌, ◌-◌, ◌<◌, ◌≤◌, Bool, true, false, List, get_or, Option, Some, None, refl, sym, ap, subst, ◌∙◌, arith, inl, inr}
use Rattle.std.specs.Prelude.{All, AllPairs, unwrap_or, is_some, ◌≢◌, ◌↔◌, ◌⊎◌, IsTrue}
use Rattle.std.specs.BTreeMap.{BTreeMap, IsOrdered, get as tree_get}
use Rattle.std.specs.Cmp.{eq_by_cmp_equiv}
use Rattle.std.specs.FinMap.{FinMap, get}
use Rattle.std.specs.List.{list_any}
use Rattle.std.specs.List.Sorted.{IsNonDecreasingBy}
use Rattle.std.proofs.lemmas.Bool.{cases_Bool, cases_eq, false≢true, and_parts, and_from, leb-true, le-leb, ltb-true, lt-ltb}
use Rattle.std.proofs.lemmas.List.{get_or_default}
use Rattle.std.proofs.lemmas.List.Folds.{Any-from_list_any, list_any-from_Any}
use Rattle.std.proofs.lemmas.Map.Keys.{IsDistinct-from_sorted}
use Rattle.papergrid_values.specs.Positions.{AreRising, along}
use Rattle.papergrid_values.specs.declared.direction.Direction.{Direction}
use Rattle.papergrid_values.specs.declared.direction.Direction.TheVariants.{Columns, Rows}
use Rattle.papergrid_values.specs.declared.position.Position.{Position}
use Rattle.papergrid_values.specs.MapKeys.{position_cmp}
use Rattle.papergrid_values.proofs.AnyLemmas.{any_found, any_from_found}
use Rattle.papergrid_values.proofs.KeyLemmas.{exact_position_eq, position_ties, position_total}
use Rattle.papergrid_maps.specs.Spans.{Spans, span_along, IsInRectangle}
use Rattle.papergrid_maps.specs.Visible.{is_visible}
use Rattle.papergrid_maps.specs.ForProofs.SpanIndex.{CoversOne, DirectedSpans, covers, covers_stored, extent_of, stored_along, key_of}
use Rattle.papergrid_maps.proofs.IndexKeys.{stored_at, key_key}
use Rattle.papergrid_maps.specs.ForProofs.SpanVisible.{visible_test}

module _ (span : Direction → Position → ℕ) (a p : Position) where
  covered_inside : covers a (span Columns a) (span Rows a) p ≡ true → (a ≢ p) × IsInRectangle span a p
  covered_inside h = grind (arith, and_parts, leb-true, ltb-true)

  inside_covered : a ≢ p → IsInRectangle span a p → covers a (span Columns a) (span Rows a) p ≡ true
  inside_covered apart within = grind (arith, and_from, le-leb, lt-ltb)

-- ---- what lies past the rectangle, by the number that rises

-- the same spans everywhere
abbrev same_spans : ℕ → ℕ → Direction → Position → ℕ
same_spans columns rows Columns p = columns
same_spans columns rows Rows p = rows

module _ (a : Position) (columns rows : ℕ) (p : Position) where
  not_covered : (IsInRectangle (same_spans columns rows) a p → ⊥) → covers a columns rows p ≡ false
  not_covered none = grind (arith, cases_Bool, covered_inside)

  pub none_before : (direction : Direction) → along direction p < along direction a → covers a columns rows p ≡ false
  none_before Columns l = not_covered (λ within. omega (arith, l, within.after_left))
  none_before Rows l = not_covered (λ within. omega (arith, l, within.below_top))

  pub none_past : (direction : Direction) → along direction a + along direction (record { row = rows; col = columns }) ≤ along direction p → covers a columns rows p ≡ false
  none_past Columns l = not_covered (λ within. omega (arith, l, within.before_right))
  none_past Rows l = not_covered (λ within. omega (arith, l, within.above_bottom))

pub never_falls : (direction : Direction) (positions : List Position) → AllPairs (AreRising direction) positions → IsNonDecreasingBy (along direction) positions
never_falls direction positions rises i j d le l = grind (arith, cases_eq)

-- ---- what the entries of an index cover

module _ (d : Direction) (m : BTreeMap Position ℕ) (others : FinMap position_cmp ℕ) (positions : List Position) where
  -- the span of an entry at its position
  span_of : (k : Position) (n : ℕ) → tree_get position_cmp m k ≡ Some n → get (stored_along d m.entries) (key_of d k) ≡ Some n
  span_of k n is = stored_at d m.entries (key_of d k) ∙ ap (tree_get position_cmp m) (key_key d k) ∙ is

  pub entries_cover : IsOrdered position_cmp m → (list_any (covers_stored d others positions) m.entries ≡ true) ↔ CoversOne (record { direction = d; spans = stored_along d m.entries }) others positions
  entries_cover ordered =
      let laws = eq_by_cmp_equiv position_total in
      let other : Position → ℕ = λ a. unwrap_or (get others a) 1 in
      let in_one : Position → ℕ → Bool = λ a n. list_any (covers a ((extent_of d n (other a)).columns) ((extent_of d n (other a)).rows)) positions in (
        λ h.
            let found = any_found laws (covers_stored d others positions) m.entries (IsDistinct-from_sorted position_cmp _ ordered) h in
            let a = key_of d found.0 in
            let span = span_of found.0 found.1 found.2 in
            (a, subst (λ o. is_some o ≡ true) (sym span) refl, subst (λ o. in_one a (unwrap_or o 1) ≡ true) (sym span) found.3),
        λ h.
            let stored = stored_or_none (get (stored_along d m.entries) h.0) h.1 in
            let k = key_of d h.0 in
            let at_key : tree_get position_cmp m k ≡ Some stored.0 = sym (stored_at d m.entries h.0) ∙ stored.1 in
            let there : in_one h.0 stored.0 ≡ true = subst (λ o. in_one h.0 (unwrap_or o 1) ≡ true) stored.1 h.2 in
            any_from_found laws (covers_stored d others positions) m.entries (λ x y e. exact_position_eq x y (position_ties x y ∙ e)) k stored.0 at_key (subst (λ a. in_one a stored.0 ≡ true) (sym (key_key d h.0)) there),
      )
    where
      stored_or_none : (o : Option ℕ) → is_some o ≡ true → (n : ℕ) × (o ≡ Some n)
      stored_or_none None h = absurd (false≢true h)
      stored_or_none (Some n) h = (n, refl)

-- ---- the rectangles of both directions

module _ (spans : Spans) (positions : List Position) where
  abbrev covers_some : Position → Bool
  covers_some a = list_any (covers a (span_along spans Columns a) (span_along spans Rows a)) positions

  -- a position that is covered is not visible
  hidden : (a : Position) → covers_some a ≡ true → All (λ p. IsTrue (is_visible spans p)) positions → ⊥
  hidden a h all =
      let found = Any-from_list_any (covers a (span_along spans Columns a) (span_along spans Rows a)) positions h in
      let p = get_or positions found.0 found.1 in
      let inside = covered_inside (span_along spans) a p (rw found.3 found.4) in
      (visible_test spans p).1.0 (all found.0 found.1 found.2) a inside.0 inside.1

  -- where neither direction covers a position, all are visible
  all_seen : ((a : Position) → is_some (get spans.columns a) ≡ true → covers_some a ≡ true → ⊥) → ((a : Position) → is_some (get spans.rows a) ≡ true → covers_some a ≡ true → ⊥)
      → All (λ p. IsTrue (is_visible spans p)) positions
  all_seen narrow short k d l = (visible_test spans (get_or positions k d)).1.1 (λ a apart within.
      let p = get_or positions k d in
      let covered : covers_some a ≡ true = list_any-from_Any (covers a (span_along spans Columns a) (span_along spans Rows a)) positions
      (k, p, l, get_or_default positions k p d l, inside_covered (span_along spans) a p apart within) in
      elim (stored (get spans.columns a)) [
        | inl wide ↦ narrow a wide covered
        | inr one ↦ elim (stored (get spans.rows a)) [
          | inl tall ↦ short a tall covered
          | inr one' ↦ grind arith
        ]
      ])
    where
      stored : (o : Option ℕ) → (is_some o ≡ true) ⊎ (o ≡ None)
      stored None = inr refl
      stored (Some n) = inl refl

module _ (columns rows : DirectedSpans) (by_columns : columns.direction ≡ Columns) (by_rows : rows.direction ≡ Rows) (positions : List Position) where
  abbrev both_spans : Spans
  both_spans = record { columns = columns.spans; rows = rows.spans }

  wide_one : (a : Position) → list_any (covers a ((extent_of columns.direction (span_along both_spans Columns a) (span_along both_spans Rows a)).columns) ((extent_of columns.direction (span_along both_spans Columns a) (span_along both_spans Rows a)).rows)) positions
      ≡ covers_some both_spans positions a
  wide_one a = ap (λ d. let extent = extent_of d (span_along both_spans Columns a) (span_along both_spans Rows a) in list_any (covers a extent.columns extent.rows) positions) by_columns

  tall_one : (a : Position) → list_any (covers a ((extent_of rows.direction (span_along both_spans Rows a) (span_along both_spans Columns a)).columns) ((extent_of rows.direction (span_along both_spans Rows a) (span_along both_spans Columns a)).rows)) positions
      ≡ covers_some both_spans positions a
  tall_one a = ap (λ d. let extent = extent_of d (span_along both_spans Rows a) (span_along both_spans Columns a) in list_any (covers a extent.columns extent.rows) positions) by_rows

  pub hidden_wide : CoversOne columns rows.spans positions → All (λ p. IsTrue (is_visible both_spans p)) positions → ⊥
  hidden_wide h = hidden both_spans positions h.0 (sym (wide_one h.0) ∙ h.2)

  pub hidden_tall : CoversOne rows columns.spans positions → All (λ p. IsTrue (is_visible both_spans p)) positions → ⊥
  hidden_tall h = hidden both_spans positions h.0 (sym (tall_one h.0) ∙ h.2)

  pub all_visible : (CoversOne columns rows.spans positions → ⊥) → (CoversOne rows columns.spans positions → ⊥) → All (λ p. IsTrue (is_visible both_spans p)) positions
  all_visible narrow short = all_seen both_spans positions (λ a stored covered. narrow (a, stored, wide_one a ∙ covered)) (λ a stored covered. short (a, stored, tall_one a ∙ covered))
