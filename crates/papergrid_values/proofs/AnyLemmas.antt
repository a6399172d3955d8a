-- A test that some entry of a map passes.
use Rattle.std.proofs.Common.{◌≡◌, ℕ, suc, Bool, true, false, cond, List, [], ◌∷◌, Option, Some, refl, ap, arith}
use Rattle.std.specs.Prelude.{◌||◌, IsSome, is_some}
use Rattle.std.specs.List.{list_any, slice_get, IsDistinct}
use Rattle.std.specs.Cmp.{IsEquivalence}
use Rattle.std.specs.Map.{lookup, keys_of}
use Rattle.std.proofs.lemmas.Bool.{false≢true}
use Rattle.std.proofs.lemmas.Map.Entries.{lookup_from_place, place_from_lookup}
use Rattle.std.proofs.lemmas.Map.Keys.{any_passes_from_place}

pub any_index : {A : Type 0} (test : A → Bool) (es : List A) → list_any test es ≡ true → (i : ℕ) × (e : A) × (slice_get es i ≡ Some e) × (test e ≡ true)
any_index test [] h = absurd (false≢true h)
any_index {A} test (e ∷ es) h =
    elim (test e) as (λ b. test e ≡ b → (b || list_any test es) ≡ true → (i : ℕ) × (x : A) × (slice_get (e ∷ es) i ≡ Some x) × (test x ≡ true)) [
      | true ↦ λ t h. (0, e, refl, t)
      | false ↦ λ t h. let r = any_index test es h in (suc r.0, r.1, r.2, r.3)
    ] refl h

module _ {K X : Type 0} {E : K → K → Bool} (laws : IsEquivalence E) (test : K × X → Bool) (es : List (K × X)) where
  -- some key's value passes
  pub any_found : IsDistinct E (keys_of es) → list_any test es ≡ true → (k : K) × (v : X) × (lookup (E k) es ≡ Some v) × (test (k, v) ≡ true)
  any_found distinct h = let r = any_index test es h in (r.1.0, r.1.1, lookup_from_place laws es r.0 r.1.0 r.1.1 distinct r.2, r.3)

  pub any_from_found : ((x y : K) → E x y ≡ true → x ≡ y) → (k : K) (v : X) → lookup (E k) es ≡ Some v → test (k, v) ≡ true → list_any test es ≡ true
  any_from_found exact k v h passes = grind (arith, place_from_lookup, any_passes_from_place)

-- some key passes
pub some_key : {K X : Type 0} {E : K → K → Bool} (laws : IsEquivalence E) (test : K → Bool) (es : List (K × X)) → list_any test (keys_of es) ≡ true → (k : K) × (test k ≡ true) × IsSome (lookup (E k) es)
some_key laws test [] h = absurd (false≢true h)
some_key {K} {X} {E} laws test (e ∷ es) h =
    elim (test e.0) as (λ b. test e.0 ≡ b → (b || list_any test (keys_of es)) ≡ true → (k : K) × (test k ≡ true) × IsSome (lookup (E k) (e ∷ es))) [
      | true ↦ λ t h. (e.0, t, ap (λ b. is_some (cond b (Some e.1) (lookup (E e.0) es))) (laws.refl e.0))
      | false ↦ λ t h. let later = some_key laws test es h in (later.0, later.1, still_some (E later.0 e.0) e.1 (lookup (E later.0) es) later.2)
    ] refl h
  where
    still_some : (b : Bool) (x : X) (o : Option X) → IsSome o → IsSome (cond b (Some x) o)
    still_some true x o h = refl
    still_some false x o h = h
