-- The entries of maps: where no key has a value, and where two maps answer alike.
use Rattle.std.proofs.Common.{◌≡◌, ℕ, Bool, cond, List, [], ◌∷◌, length, eqb, Option, Some, None, refl, sym, ap, ◌∙◌, arith}
use Rattle.std.specs.Prelude.{◌↔◌, is_some}
use Rattle.std.specs.Cmp.{IsEquivalence, nat_cmp_total}
use Rattle.std.specs.Map.{lookup}
use Rattle.std.specs.FinMap.{from_entries, same_map, nat_cmp-IsAntisymmetric}
use Rattle.std.specs.Ordering.{nat_cmp}
use Rattle.std.proofs.lemmas.Bool.{false≢true}
use Rattle.papergrid_values.specs.declared.position.Position.{Position}
use Rattle.papergrid_values.specs.MapKeys.{position_cmp, position_eq}
use Rattle.papergrid_values.proofs.KeyLemmas.{get_at_number, get_at_position, position_total, exact_positions}

pub none_is_not_some : {X : Type 0} {x : X} → ◌≡◌ {A = Option X} None (Some x) → ⊥
none_is_not_some e = false≢true (ap is_some e)

-- a list of entries in which no key has a value is empty
pub no_entries : {K X : Type 0} (E : K → K → Bool) (laws : IsEquivalence E) (es : List (K × X)) → ((q : K) → lookup (E q) es ≡ None) → length es ≡ 0
no_entries E laws [] none = refl
no_entries E laws (e ∷ es) none =
    absurd (none_is_not_some (sym (none e.0) ∙ ap (λ b. cond b (Some e.1) (lookup (E e.0) es)) (laws.refl e.0)))

pub none_of_nothing : {K X : Type 0} (E : K → K → Bool) (es : List (K × X)) → length es ≡ 0 → (q : K) → lookup (E q) es ≡ None
none_of_nothing E [] h q = refl
none_of_nothing E (e ∷ es) h q = absurd (omega (arith, h))

-- a test for no entries tells whether no key has a value
pub empty_where_none : {K X P : Type 0} (E : K → K → Bool) (laws : IsEquivalence E) (es : List (K × X)) → P ↔ (length es ≡ 0) → P ↔ ((q : K) → lookup (E q) es ≡ None)
empty_where_none E laws es empty = ((λ h. none_of_nothing E es (empty.0 h)), (λ none. empty.1 (no_entries E laws es none)))

-- maps that answer alike hold the same
module _ {T : Type 0} where
  pub same_numbers : (es fs : List (ℕ × T)) → ((q : ℕ) → lookup (eqb q) fs ≡ lookup (eqb q) es) → from_entries {R = nat_cmp} fs ≡ from_entries es
  same_numbers es fs same = same_map nat_cmp_total nat_cmp-IsAntisymmetric _ _ (λ q. get_at_number fs q ∙ same q ∙ sym (get_at_number es q))

  pub same_positions : (es fs : List (Position × T)) → ((q : Position) → lookup (position_eq q) fs ≡ lookup (position_eq q) es) → from_entries {R = position_cmp} fs ≡ from_entries es
  same_positions es fs same = same_map position_total exact_positions _ _ (λ q. get_at_position fs q ∙ same q ∙ sym (get_at_position es q))
