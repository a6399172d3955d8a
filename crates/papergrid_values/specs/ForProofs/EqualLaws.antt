-- That equality of maps and of options goes both ways and on, from the laws of hash maps with the same entries.
use Rattle.std.specs.Prelude.{◌≡◌, Bool, true, Option, Some, None, nat_eq, refl}
use Rattle.std.specs.Option.{option_eq}
use Rattle.std.specs.Cmp.{IsPartialEquivalence, IsEquivalence, nat_eq_equiv, and_equiv, on_equiv, on_per}
use Rattle.std.specs.HashMap.{entries_eq}
use Rattle.std.specs.FinMap.{entries}
use Rattle.std.proofs.lemmas.Bool.{false≢true}
use Rattle.std_collections.specs.Layout.HashMap.{hash_map}
use Rattle.std_collections.specs.HashMap.Eq.{hash_map_eq_symm, hash_map_eq_trans}
use Rattle.papergrid_values.specs.Equal.{numbers_eq, positions_eq}
use Rattle.papergrid_values.specs.MapKeys.{position_eq}

position_eq_equiv : IsEquivalence position_eq
position_eq_equiv = and_equiv (on_equiv (λ p. p.row) nat_eq_equiv) (on_equiv (λ p. p.col) nat_eq_equiv)

entries_laws : {K X : Type 0} (same : K → K → Bool) → IsEquivalence same → (eq : X → X → Bool) → IsPartialEquivalence eq
    → IsPartialEquivalence (entries_eq same (λ (p q : K × X). eq p.1 q.1))
entries_laws same same_equiv eq laws = record {
  symm = λ es fs. hash_map_eq_symm same eq laws.symm (hash_map es (tt {0}) 0) (hash_map fs (tt {0}) 0);
  trans = λ es fs gs. hash_map_eq_trans same eq same_equiv laws.trans (hash_map es (tt {0}) 0) (hash_map fs (tt {0}) 0) (hash_map gs (tt {0}) 0);
}

pub numbers_laws : {X : Type 0} (eq : X → X → Bool) → IsPartialEquivalence eq → IsPartialEquivalence (numbers_eq eq)
numbers_laws eq laws = on_per entries (entries_laws nat_eq nat_eq_equiv eq laws)

pub positions_laws : {X : Type 0} (eq : X → X → Bool) → IsPartialEquivalence eq → IsPartialEquivalence (positions_eq eq)
positions_laws eq laws = on_per entries (entries_laws position_eq position_eq_equiv eq laws)

-- ---- parts that are set or not

option_symm : {X : Type 0} (eq : X → X → Bool) → IsPartialEquivalence eq → (a b : Option X) → option_eq eq a b ≡ option_eq eq b a
option_symm eq laws None None = refl
option_symm eq laws None (Some y) = refl
option_symm eq laws (Some x) None = refl
option_symm eq laws (Some x) (Some y) = laws.symm x y

option_trans : {X : Type 0} (eq : X → X → Bool) → IsPartialEquivalence eq → (a b c : Option X) → option_eq eq a b ≡ true → option_eq eq b c ≡ true → option_eq eq a c ≡ true
option_trans eq laws None None c p q = q
option_trans eq laws None (Some y) c p q = absurd (false≢true p)
option_trans eq laws (Some x) None c p q = absurd (false≢true p)
option_trans eq laws (Some x) (Some y) None p q = q
option_trans eq laws (Some x) (Some y) (Some z) p q = laws.trans x y z p q

pub option_laws : {X : Type 0} (eq : X → X → Bool) → IsPartialEquivalence eq → IsPartialEquivalence (option_eq eq)
option_laws eq laws = record { symm = option_symm eq laws; trans = option_trans eq laws }
