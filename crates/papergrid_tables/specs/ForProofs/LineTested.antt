-- The tests of lines say what the definition of lines says.
use Rattle.std.proofs.Common.{◌≡◌, ℕ, Bool, true, false, eqb, Option, Some, None, refl, sym, ap, subst, ◌∙◌, ◌&&◌, inl, inr, ⊎_elim}
use Rattle.std.specs.Prelude.{◌↔◌, ◌⊎◌, ◌||◌, IsTrue, IsSome, is_some}
use Rattle.std.specs.Cmp.{unsigned_tied}
use Rattle.std.specs.Ordering.{eq_by_cmp, nat_cmp}
use Rattle.std.specs.declared.cmp.Ordering.{Ordering}
use Rattle.std.specs.List.{list_any}
use Rattle.std.specs.FinMap.{FinMap, get, keys, contains_key-keys}
use Rattle.std.proofs.lemmas.Bool.{false≢true, and_parts, and_from, or_left, or_right, eqb-true, eq-eqb}
use Rattle.std.proofs.lemmas.Map.Keys.{any_passes_from_place}
use Rattle.papergrid_values.specs.declared.position.Position.{Position}
use Rattle.papergrid_values.specs.declared.horizontal_line.HorizontalLine.{HorizontalLine}
use Rattle.papergrid_values.specs.declared.vertical_line.VerticalLine.{VerticalLine}
use Rattle.papergrid_values.specs.declared.direction.Direction.{Direction}
use Rattle.papergrid_values.specs.declared.direction.Direction.TheVariants.{Columns, Rows}
use Rattle.papergrid_tables.specs.StoredBorders.{StoredBorders, parts_of_borders}
use Rattle.papergrid_values.specs.MapKeys.{position_cmp}
use Rattle.papergrid_tables.specs.BorderScan.{has_end}
use Rattle.papergrid_tables.specs.ForProofs.LineSearch.{ends_at_column, ends_at_row, horizontal_line_at, vertical_line_at}
use Rattle.papergrid_tables.specs.BorderParts.{HasEnd, HasLine}
use Rattle.papergrid_values.proofs.AnyLemmas.{any_index}
use Rattle.papergrid_values.proofs.KeyLemmas.{exact_position, position_ties, position_equiv}
use Rattle.papergrid_values.proofs.ResultLemmas.{same_answer}

pub has_end_is : {T : Type 0} (index count : ℕ) (first end : Option T) → IsTrue (has_end index count first end) ↔ HasEnd index count first end
has_end_is index count first end = (
  (λ h. elim (eqb index 0 && is_some first) as (λ b. (eqb index 0 && is_some first) ≡ b → (b || (eqb index count && is_some end)) ≡ true → HasEnd index count first end) [
    | true ↦ λ is _. let parts = and_parts _ _ is in inl (eqb-true index 0 parts.0, parts.1)
    | false ↦ λ _ rest. let parts = and_parts _ _ rest in inr (eqb-true index count parts.0, parts.1)
  ] refl h),
  (λ h. ⊎_elim (λ here. or_left _ _ (and_from _ _ (eq-eqb index 0 here.0) here.1)) (λ there. or_right _ _ (and_from _ _ (eq-eqb index count there.0) there.1)) h),
)

pub some_value : {A : Type 0} (o : Option A) → IsSome o → (x : A) × (o ≡ Some x)
some_value None h = absurd (false≢true h)
some_value (Some x) h = (x, refl)

pub decided_by_rest : {A B : Type 0} (a b : Bool) → (IsTrue a ↔ A) → (IsTrue b ↔ B) → a ≡ false → IsTrue b ↔ (A ⊎ B)
decided_by_rest a b first second no_first = ((λ h. inr (second.0 h)), (λ h. ⊎_elim (λ x. absurd (false≢true (sym no_first ∙ first.1 x))) (λ y. second.1 y) h))

-- one of two tests
pub either : {A B : Type 0} (a b : Bool) → (a ≡ true) ↔ A → (b ≡ true) ↔ B → ((a || b) ≡ true) ↔ (A ⊎ B)
either true b first second = ((λ _. inl (first.0 refl)), (λ _. refl))
either false b first second = decided_by_rest false b first second refl

-- some key that is stored passes
module _ {K X : Type 0} {R : K → K → Ordering} (exact : (x y : K) → eq_by_cmp R x y ≡ true → x ≡ y) (ties : (x : K) → eq_by_cmp R x x ≡ true) (m : FinMap R X) (test : K → Bool) where
  found_key : list_any test (keys m) ≡ true → (k : K) × IsSome (get m k) × (test k ≡ true)
  found_key h =
      let position = any_index test (keys m) h in
      (position.1, contains_key-keys m position.1 ∙ any_passes_from_place (eq_by_cmp R position.1) (keys m) position.0 position.1 position.2 (ties position.1), position.3)

  from_key : (k : K) → IsSome (get m k) → test k ≡ true → list_any test (keys m) ≡ true
  from_key k stored passes =
      let position = any_index _ (keys m) (sym (contains_key-keys m k) ∙ stored) in
      any_passes_from_place test (keys m) position.0 position.1 position.2 (subst (λ q. test q ≡ true) (exact k position.1 position.3) passes)

pub exact_number : (x y : ℕ) → eq_by_cmp nat_cmp x y ≡ true → x ≡ y
exact_number x y h = eqb-true x y (sym (unsigned_tied x y) ∙ h)

pub number_ties : (x : ℕ) → eq_by_cmp nat_cmp x x ≡ true
number_ties x = unsigned_tied x x ∙ eq-eqb x x refl

pub same_position : (p : Position) → eq_by_cmp position_cmp p p ≡ true
same_position p = sym (position_ties p p) ∙ position_equiv.refl p

-- a position in a row or a column
position_test : {T : Type 0} (along : Position → ℕ) (n : ℕ) (m : FinMap position_cmp T)
    → (list_any (λ p. eqb (along p) n) (keys m) ≡ true) ↔ ((p : Position) × (along p ≡ n) × IsSome (get m p))
position_test along n m = (
  (λ h. let found = found_key exact_position same_position m (λ p. eqb (along p) n) h in (found.0, eqb-true _ _ found.2, found.1)),
  (λ h. from_key exact_position same_position m (λ p. eqb (along p) n) h.0 h.2 (eq-eqb _ _ h.1)),
)

-- an end of a line
end_test : {L : Type 0} (IsEnd : L → Type 0) (test : Option L → Bool) (m : FinMap nat_cmp L) → ((line : L) → (test (Some line) ≡ true) ↔ IsEnd line) → test None ≡ false
    → (list_any (λ n. test (get m n)) (keys m) ≡ true) ↔ ((n : ℕ) × (line : L) × (get m n ≡ Some line) × IsEnd line)
end_test IsEnd test m is none = (
  (λ h.
      let found = found_key exact_number number_ties m (λ n. test (get m n)) h in
      let stored = some_value (get m found.0) found.1 in
      (found.0, stored.0, stored.1, (is stored.0).0 (subst (λ o. test o ≡ true) stored.1 found.2))),
  (λ h. from_key exact_number number_ties m (λ n. test (get m n)) h.0 (ap is_some h.2) (subst (λ o. test o ≡ true) (sym h.2) ((is h.1).1 h.3))),
)

itself : (b : Bool) → (b ≡ true) ↔ (b ≡ true)
itself b = ((λ h. h), (λ h. h))

module _ {T : Type 0} (stored : StoredBorders T) where
  pub vertical_tested : (c count : ℕ) → IsTrue (vertical_line_at stored c count) ↔ HasLine Columns (parts_of_borders stored) c count
  vertical_tested c count =
      either _ _ (itself _) (either _ _ (itself _) (either _ _
      (end_test (λ (line : HorizontalLine T). HasEnd c count line.left line.right) (ends_at_column c count) stored.horizontal_lines (λ line. has_end_is c count line.left line.right) refl)
      (either _ _ (itself _) (either _ _ (position_test (λ p. p.col) c stored.vertical_edges) (position_test (λ p. p.col) c stored.corners)))))

  pub horizontal_tested : (r count : ℕ) → IsTrue (horizontal_line_at stored r count) ↔ HasLine Rows (parts_of_borders stored) r count
  horizontal_tested r count =
      either _ _ (itself _) (either _ _ (itself _) (either _ _
      (end_test (λ (line : VerticalLine T). HasEnd r count line.top line.bottom) (ends_at_row r count) stored.vertical_lines (λ line. has_end_is r count line.top line.bottom) refl)
      (either _ _ (itself _) (either _ _ (position_test (λ p. p.row) r stored.horizontal_edges) (position_test (λ p. p.row) r stored.corners)))))

  -- whether there is a line, and that there is one exactly there
  pub line_test : (direction : Direction) (count i : ℕ) → (test : Bool) × (IsTrue test ↔ HasLine direction (parts_of_borders stored) i count)
  line_test Columns count i = (vertical_line_at stored i count, vertical_tested i count)
  line_test Rows count i = (horizontal_line_at stored i count, horizontal_tested i count)

  -- a test of a line is that one
  pub is_test : (direction : Direction) (count i : ℕ) (test : Bool) → (IsTrue test ↔ HasLine direction (parts_of_borders stored) i count) → test ≡ (line_test direction count i).0
  is_test direction count i test is = same_answer test _ is (line_test direction count i).1
