-- What a test finds in a range of a map by positions.
use Rattle.std.proofs.Common.{◌≡◌, ℕ, ◌<◌, Bool, true, false, cond, ◌&&◌, List, [], ◌∷◌, Some, refl, sym, ◌∙◌, arith}
use Rattle.std.specs.Prelude.{◌||◌, ◌↔◌, not}
use Rattle.std.specs.BTreeMap.{BTreeMap, IsOrdered, get as tree_get}
use Rattle.std.specs.BTreeMap.Range.{entries_between, range_contains}
use Rattle.std.specs.Cmp.{eq_by_cmp_equiv}
use Rattle.std.specs.List.{filter, list_any}
use Rattle.std.specs.Ordering.{MatchOrdering, is_le, nat_cmp, ordering_then}
use Rattle.std.specs.declared.cmp.Ordering.{Ordering}
use Rattle.std.specs.declared.cmp.Ordering.TheVariants.{Less, Equal, Greater}
use Rattle.std.specs.declared.ops.Bound.{Bound}
use Rattle.std.specs.declared.ops.Bound.TheVariants.{Included, Excluded, Unbounded}
use Rattle.std.proofs.lemmas.Bool.{and_from, and_parts, false≢true}
use Rattle.std.proofs.lemmas.Cmp.{ranked}
use Rattle.std.proofs.lemmas.Map.Keys.{IsDistinct-from_sorted}
use Rattle.papergrid_values.specs.declared.position.Position.{Position}
use Rattle.papergrid_values.specs.MapKeys.{position_cmp}
use Rattle.papergrid_values.proofs.AnyLemmas.{any_found, any_from_found}
use Rattle.papergrid_values.proofs.KeyLemmas.{exact_position_eq, position_ties, position_total}

any_filter : {A : Type 0} (p test : A → Bool) (xs : List A) → list_any test (filter p xs) ≡ list_any (λ x. p x && test x) xs
any_filter p test [] = refl
any_filter p test (x ∷ xs) =
    elim (p x) as (λ b. list_any test (cond b (x ∷ filter p xs) (filter p xs)) ≡ ((b && test x) || list_any (λ y. p y && test y) xs)) [
      | true ↦ λ i. test x || any_filter p test xs i
      | false ↦ any_filter p test xs
    ]

module _ {X : Type 0} (m : BTreeMap Position X) (lo hi : Bound Position) (test : Position × X → Bool) where
  -- an entry of the range passes the test
  pub any_between : IsOrdered position_cmp m → (list_any test (entries_between position_cmp lo hi m.entries) ≡ true)
      ↔ ((k : Position) × (v : X) × (tree_get position_cmp m k ≡ Some v) × (range_contains position_cmp lo hi k ≡ true) × (test (k, v) ≡ true))
  any_between ordered =
      let within : Position × X → Bool = λ e. range_contains position_cmp lo hi e.0 in
      let laws = eq_by_cmp_equiv position_total in
      let split = any_filter within test m.entries in (
        λ h.
            let found = any_found laws (λ e. within e && test e) m.entries (IsDistinct-from_sorted position_cmp _ ordered) (sym split ∙ h) in
            let parts = and_parts (within (found.0, found.1)) _ found.3 in
            (found.0, found.1, found.2, parts.0, parts.1),
        λ h. split ∙ any_from_found laws (λ e. within e && test e) m.entries (λ x y e. exact_position_eq x y (position_ties x y ∙ e)) h.0 h.1 h.2 (and_from _ _ h.3 h.4),
      )

-- ---- the keys of a line before a key

ranks : (x y : ℕ) → MatchOrdering (nat_cmp x y) (x < y) (x ≡ y) (y < x)
ranks x y = ranked x y (nat_cmp x y) refl

module _ (key k : Position) where
  line_ranks : (r s t : Ordering) → MatchOrdering r (key.row < k.row) (key.row ≡ k.row) (k.row < key.row) → MatchOrdering t (key.col < k.col) (key.col ≡ k.col) (k.col < key.col)
      → (is_le (ordering_then r s) && not (is_le (ordering_then r t))) ≡ true → (k.row ≡ key.row) × (k.col < key.col)
  line_ranks Less s t row col h = absurd (false≢true h)
  line_ranks Greater s t row col h = absurd (false≢true h)
  line_ranks Equal s Less row col h = absurd (false≢true ((and_parts (is_le s) false h).1))
  line_ranks Equal s Equal row col h = absurd (false≢true ((and_parts (is_le s) false h).1))
  line_ranks Equal s Greater row col h = (sym row, col)

  pub in_line : range_contains position_cmp (Included (record { row = key.row; col = 0 })) (Excluded key) k ≡ true → (k.row ≡ key.row) × (k.col < key.col)
  in_line h = line_ranks (nat_cmp key.row k.row) (nat_cmp 0 k.col) (nat_cmp key.col k.col) (ranks key.row k.row) (ranks key.col k.col) h

  ranks_line : (r s t : Ordering) → MatchOrdering r (key.row < k.row) (key.row ≡ k.row) (k.row < key.row) → MatchOrdering s (0 < k.col) (0 ≡ k.col) (k.col < 0)
      → MatchOrdering t (key.col < k.col) (key.col ≡ k.col) (k.col < key.col)
      → k.row ≡ key.row → k.col < key.col → (is_le (ordering_then r s) && not (is_le (ordering_then r t))) ≡ true
  ranks_line Less s t row zero col same left = absurd (omega (arith, row, same))
  ranks_line Greater s t row zero col same left = absurd (omega (arith, row, same))
  ranks_line Equal Greater t row zero col same left = absurd (omega (arith, zero))
  ranks_line Equal Less Greater row zero col same left = refl
  ranks_line Equal Equal Greater row zero col same left = refl
  ranks_line Equal s Less row zero col same left = absurd (omega (arith, col, left))
  ranks_line Equal s Equal row zero col same left = absurd (omega (arith, col, left))

  pub of_line : k.row ≡ key.row → k.col < key.col → range_contains position_cmp (Included (record { row = key.row; col = 0 })) (Excluded key) k ≡ true
  of_line = ranks_line (nat_cmp key.row k.row) (nat_cmp 0 k.col) (nat_cmp key.col k.col) (ranks key.row k.row) (ranks 0 k.col) (ranks key.col k.col)

  -- ---- the keys of the rows above a row

  above_ranks : (r s : Ordering) → MatchOrdering r (key.row < k.row) (key.row ≡ k.row) (k.row < key.row) → MatchOrdering s (0 < k.col) (0 ≡ k.col) (k.col < 0)
      → not (is_le (ordering_then r s)) ≡ true → k.row < key.row
  above_ranks Less s row zero h = absurd (false≢true h)
  above_ranks Equal Less row zero h = absurd (false≢true h)
  above_ranks Equal Equal row zero h = absurd (false≢true h)
  above_ranks Equal Greater row zero h = absurd (omega (arith, zero))
  above_ranks Greater s row zero h = row

  pub is_above : range_contains position_cmp Unbounded (Excluded (record { row = key.row; col = 0 })) k ≡ true → k.row < key.row
  is_above h = above_ranks (nat_cmp key.row k.row) (nat_cmp 0 k.col) (ranks key.row k.row) (ranks 0 k.col) h

  ranks_above : (r s : Ordering) → MatchOrdering r (key.row < k.row) (key.row ≡ k.row) (k.row < key.row) → k.row < key.row → not (is_le (ordering_then r s)) ≡ true
  ranks_above Less s row above = absurd (omega (arith, row, above))
  ranks_above Equal s row above = absurd (omega (arith, row, above))
  ranks_above Greater s row above = refl

  pub of_above : k.row < key.row → range_contains position_cmp Unbounded (Excluded (record { row = key.row; col = 0 })) k ≡ true
  of_above = ranks_above (nat_cmp key.row k.row) (nat_cmp 0 k.col) (ranks key.row k.row)
