-- Equality of finite maps, by the entries of hashed ones.
use Rattle.std.proofs.Common.{◌≡◌, ℕ, Bool, true, false, List, Option, Some, None, eqb, refl, sym, ◌∙◌}
use Rattle.std.specs.Option.{option_eq}
use Rattle.std.specs.Cmp.{IsEquivalence, nat_eq_equiv}
use Rattle.std.specs.Map.{lookup}
use Rattle.std.specs.HashMap.{HashMap, entries_eq}
use Rattle.std.specs.Prelude.{◌↔◌}
use Rattle.std.specs.FinMap.{FinMap, get, entries, from_entries, get-entries}
use Rattle.std.specs.Ordering.{eq_by_cmp, nat_cmp}
use Rattle.std.specs.declared.cmp.Ordering.{Ordering}
use Rattle.std_collections.specs.Layout.HashMap.{hash_map}
use Rattle.std_collections.specs.HashMap.Eq.{hash_map_eq_from_get, get_from_hash_map_eq}
use Rattle.papergrid_values.specs.MapKeys.{position_cmp, position_eq}
use Rattle.papergrid_values.specs.Equal.{numbers_eq, positions_eq}
use Rattle.papergrid_values.specs.declared.position.Position.{Position}
use Rattle.papergrid_values.proofs.KeyLemmas.{get_at_number, get_at_position, find-lookup, position_equiv, position_ties}
use Rattle.std.specs.Cmp.{unsigned_ties}

-- two tests with one meaning are equal
pub same_test : (a b : Bool) → (a ≡ true → b ≡ true) → (b ≡ true → a ≡ true) → a ≡ b
same_test true b f g = sym (f refl)
same_test false true f g = g refl
same_test false false f g = refl

module _ {K X : Type 0} (E : K → K → Bool) (R : K → K → Ordering) (laws : IsEquivalence E) (ties : (x y : K) → E x y ≡ eq_by_cmp R x y) (eq : X → X → Bool) where
  -- a hash map with the entries
  abbrev wrapped : List (K × X) → HashMap K X (Unit {0})
  wrapped es = hash_map es tt 0

  -- the entries of the finite maps agree as those of the hash maps do, where these answer alike
  same_answers : (es fs gs hs : List (K × X)) → ((q : K) → lookup (E q) gs ≡ lookup (E q) es) → ((q : K) → lookup (E q) hs ≡ lookup (E q) fs)
      → entries_eq E (λ p q. eq p.1 q.1) es fs ≡ entries_eq E (λ p q. eq p.1 q.1) gs hs
  same_answers es fs gs hs left right = same_test _ _
      (λ h. hash_map_eq_from_get E eq (wrapped gs) (wrapped hs) (λ q. (λ i. option_eq eq (left q i) (right q i)) ∙ get_from_hash_map_eq E eq laws (wrapped es) (wrapped fs) h q))
      (λ h. hash_map_eq_from_get E eq (wrapped es) (wrapped fs) (λ q. (λ i. option_eq eq (sym (left q) i) (sym (right q) i)) ∙ get_from_hash_map_eq E eq laws (wrapped gs) (wrapped hs) h q))

  at_entries : (es : List (K × X)) → ((q : K) → get (from_entries {R = R} es) q ≡ lookup (E q) es) → (q : K) → lookup (E q) (entries (from_entries {R = R} es)) ≡ lookup (E q) es
  at_entries es answers q = sym (find-lookup E R ties (entries (from_entries {R = R} es)) q) ∙ sym (get-entries (from_entries {R = R} es) q) ∙ answers q

-- equality of finite maps is that of what they have at each key
module _ {K X : Type 0} (E : K → K → Bool) (R : K → K → Ordering) (laws : IsEquivalence E) (ties : (x y : K) → E x y ≡ eq_by_cmp R x y) (eq : X → X → Bool) where
  -- a hash map with its entries
  abbrev hashed : FinMap R X → HashMap K X (Unit {0})
  hashed m = hash_map (entries m) tt 0

  found_at : (m : FinMap R X) (q : K) → lookup (E q) (entries m) ≡ get m q
  found_at m q = sym (find-lookup E R ties (entries m) q) ∙ sym (get-entries m q)

  agree : (m n : FinMap R X) → (entries_eq E (λ p q. eq p.1 q.1) (entries m) (entries n) ≡ true) ↔ ((q : K) → option_eq eq (get m q) (get n q) ≡ true)
  agree m n = (
    λ h q. (λ i. option_eq eq (sym (found_at m q) i) (sym (found_at n q) i)) ∙ get_from_hash_map_eq E eq laws (hashed m) (hashed n) h q,
    λ h. hash_map_eq_from_get E eq (hashed m) (hashed n) (λ q. (λ i. option_eq eq (found_at m q i) (found_at n q i)) ∙ h q),
  )

pub numbers_agree : {X : Type 0} (eq : X → X → Bool) (m n : FinMap nat_cmp X) → (numbers_eq eq m n ≡ true) ↔ ((q : ℕ) → option_eq eq (get m q) (get n q) ≡ true)
numbers_agree eq m n = agree eqb nat_cmp nat_eq_equiv unsigned_ties eq m n

pub positions_agree : {X : Type 0} (eq : X → X → Bool) (m n : FinMap position_cmp X) → (positions_eq eq m n ≡ true) ↔ ((q : Position) → option_eq eq (get m q) (get n q) ≡ true)
positions_agree eq m n = agree position_eq position_cmp position_equiv position_ties eq m n

-- equality of the finite maps with these entries
pub numbers_eq-from_entries : {X : Type 0} (eq : X → X → Bool) (es fs : List (ℕ × X))
    → numbers_eq eq (from_entries es) (from_entries fs) ≡ entries_eq eqb (λ p q. eq p.1 q.1) es fs
numbers_eq-from_entries eq es fs =
    same_answers eqb nat_cmp nat_eq_equiv unsigned_ties eq _ _ es fs
    (λ q. sym (at_entries eqb nat_cmp nat_eq_equiv unsigned_ties eq es (get_at_number es) q)) (λ q. sym (at_entries eqb nat_cmp nat_eq_equiv unsigned_ties eq fs (get_at_number fs) q))

pub positions_eq-from_entries : {X : Type 0} (eq : X → X → Bool) (es fs : List (Position × X))
    → positions_eq eq (from_entries es) (from_entries fs) ≡ entries_eq position_eq (λ p q. eq p.1 q.1) es fs
positions_eq-from_entries eq es fs =
    same_answers position_eq position_cmp position_equiv position_ties eq _ _ es fs
    (λ q. sym (at_entries position_eq position_cmp position_equiv position_ties eq es (get_at_position es) q)) (λ q. sym (at_entries position_eq position_cmp position_equiv position_ties eq fs (get_at_position fs) q))

-- what equals itself, part by part
module _ {X : Type 0} (eq : X → X → Bool) (same : (x : X) → eq x x ≡ true) where
  pub option_same : (o : Option X) → option_eq eq o o ≡ true
  option_same None = refl
  option_same (Some x) = same x

  pub numbers_same : (m : FinMap nat_cmp X) → numbers_eq eq m m ≡ true
  numbers_same m = (numbers_agree eq m m).1 (λ n. option_same (get m n))

  pub positions_same : (m : FinMap position_cmp X) → positions_eq eq m m ≡ true
  positions_same m = (positions_agree eq m m).1 (λ p. option_same (get m p))
