-- Whether some characters are overridden at a position.
use Rattle.std.proofs.Common.{◌≡◌, ◌∙◌, ℕ, Bool, true, false, eqb, List, [], ◌∷◌, Option, Some, None, ap, arith, inl, inr, length, refl, sym}
use Rattle.std.specs.Cmp.{eq_by_cmp_equiv, nat_cmp_total}
use Rattle.std.specs.FinMap.{FinMap, contains_key-keys, get, keys}
use Rattle.std.specs.List.{list_any}
use Rattle.std.specs.Ordering.{eq_by_cmp, nat_cmp}
use Rattle.std.specs.Prelude.{◌↔◌, ◌⊎◌, ◌&&◌, not, IsSome, IsTrue, option_and_then}
use Rattle.std.proofs.lemmas.Bool.{false≢true, ne_eqb, or_left}
use Rattle.papergrid_values.specs.declared.offset.Offset.{Offset}
use Rattle.papergrid_values.specs.declared.offset.Offset.TheVariants.{Start, End}
use Rattle.papergrid_values.specs.declared.position.Position.{Position}
use Rattle.papergrid_values.specs.MapKeys.{position_cmp}
use Rattle.papergrid_values.proofs.ResultLemmas.{same_answer}
use Rattle.papergrid_tables.specs.Overrides.{StoredOffsets, IsOverridden, at_offset}
use Rattle.papergrid_draw.specs.Characters.{has_overrides}

find_key : (ks : List ℕ) → ((n : ℕ) × (list_any (eq_by_cmp nat_cmp n) ks ≡ true)) ⊎ (ks ≡ [])
find_key [] = inr refl
find_key (k ∷ ks) = inl (k, or_left _ _ ((eq_by_cmp_equiv nat_cmp_total).refl k))

has_key : (test : ℕ → Bool) (ks : List ℕ) → list_any test ks ≡ true → eqb (length ks) 0 ≡ false
has_key test [] any = absurd (false≢true any)
has_key test (k ∷ ks) any = ne_eqb _ _ (λ e. omega arith)

first_false : (a b : Bool) → a ≡ false → not (a && b) ≡ true
first_false a b is = ap (λ a. not (a && b)) is

second_false : (a b : Bool) → b ≡ false → not (a && b) ≡ true
second_false true b is = ap not is
second_false false b is = refl

module _ {T : Type 0} where
  -- something is held at a number, or there is no key
  find_number : (m : FinMap nat_cmp T) → ((n : ℕ) × IsSome (get m n)) ⊎ (keys m ≡ [])
  find_number m = elim (find_key (keys m)) [ inl found ↦ inl (found.0, contains_key-keys m found.0 ∙ found.1) | inr none ↦ inr none ]

  some_number : (m : FinMap nat_cmp T) (n : ℕ) → IsSome (get m n) → eqb (length (keys m)) 0 ≡ false
  some_number m n there = has_key (eq_by_cmp nat_cmp n) (keys m) (sym (contains_key-keys m n) ∙ there)

  neither_held : (held : StoredOffsets T) → keys held.from_start ≡ [] → keys held.from_end ≡ [] → has_overrides (Some held) ≡ false
  neither_held held start end = λ i. not (eqb (length (start i)) 0 && eqb (length (end i)) 0)

  some_held : (held : StoredOffsets T) → has_overrides (Some held) ≡ true → (o : Offset) × IsSome (at_offset held o)
  some_held held any = elim (find_number held.from_start) [
    | inl found ↦ (Start found.0, found.1)
    | inr none ↦ elim (find_number held.from_end) [
      | inl found ↦ (End found.0, found.1)
      | inr nor ↦ absurd (false≢true (sym (neither_held held none nor) ∙ any))
    ]
  ]

  from_held : (held : StoredOffsets T) (o : Offset) → IsSome (at_offset held o) → has_overrides (Some held) ≡ true
  from_held held (Start n) there = first_false _ _ (some_number held.from_start n there)
  from_held held (End n) there = second_false _ _ (some_number held.from_end n there)

  of_entry : (entry : Option (StoredOffsets T)) → IsTrue (has_overrides entry) ↔ ((o : Offset) × IsSome (option_and_then (λ offsets. at_offset offsets o) entry))
  of_entry None = (λ any. absurd (false≢true any), λ found. absurd (false≢true found.1))
  of_entry (Some held) = (some_held held, λ found. from_held held found.0 found.1)

  pub has_overrides-IsOverridden : (held : FinMap position_cmp (StoredOffsets T)) (p : Position) → IsTrue (has_overrides (get held p)) ↔ IsOverridden held p
  has_overrides-IsOverridden held p = of_entry (get held p)

  -- the answer to whether there is an override is that test
  pub tells_overrides : (answer : Bool) (held : FinMap position_cmp (StoredOffsets T)) (p : Position) → IsTrue answer ↔ IsOverridden held p
      → answer ≡ has_overrides (get held p)
  tells_overrides answer held p told = same_answer answer (has_overrides (get held p)) told (has_overrides-IsOverridden held p)
