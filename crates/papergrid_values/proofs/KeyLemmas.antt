-- The maps' keys, and what a finite map made of entries has at a key.
use Rattle.std.proofs.Common.{◌≡◌, ℕ, Bool, true, cond, List, [], ◌∷◌, eqb, Some, refl, sym, ap, ◌∙◌, arith}
use Rattle.std.specs.declared.cmp.Ordering.{Ordering}
use Rattle.std.specs.Ordering.{nat_cmp, eq_by_cmp}
use Rattle.std.specs.Cmp.{IsTotalOrder, IsEquivalence, nat_cmp_total, nat_eq_equiv, unsigned_ties, both_tied, and_equiv, on_equiv}
use Rattle.std.proofs.lemmas.Bool.{and_parts, eqb-true}
use Rattle.std.proofs.lemmas.Cmp.{on_total, then_total}
use Rattle.std.proofs.lemmas.Map.Lookups.{CmpEqualImpliesEq, exact_pairs, exact_unsigned}
use Rattle.std.specs.Map.{lookup}
use Rattle.std.specs.FinMap.{get, find, from_entries, get-from_entries}
use Rattle.papergrid_values.specs.MapKeys.{position_cmp, position_eq}
use Rattle.papergrid_values.specs.declared.position.Position.{Position}

pub position_total : IsTotalOrder position_cmp
position_total = then_total (on_total (λ p. p.row) nat_cmp_total) (on_total (λ p. p.col) nat_cmp_total)

pub exact_positions : CmpEqualImpliesEq position_cmp
exact_positions a b h = ap (λ (p : ℕ × ℕ). record { row = p.0; col = p.1 }) (exact_pairs nat_cmp nat_cmp exact_unsigned exact_unsigned (a.row, a.col) (b.row, b.col) h)

pub position_ties : (p q : Position) → position_eq p q ≡ eq_by_cmp position_cmp p q
position_ties p q = both_tied _ _ _ _ (unsigned_ties p.row q.row) (unsigned_ties p.col q.col)

module _ {K X : Type 0} (E : K → K → Bool) (R : K → K → Ordering) (ties : (x y : K) → E x y ≡ eq_by_cmp R x y) where
  pub find-lookup : (es : List (K × X)) (q : K) → find R q es ≡ lookup (E q) es
  find-lookup [] q = refl
  find-lookup (e ∷ es) q = λ i. cond (sym (ties q e.0) i) (Some e.1) (find-lookup es q i)

-- what the map of entries has at a column or a row
pub get_at_number : {X : Type 0} (es : List (ℕ × X)) (q : ℕ) → get (from_entries {R = nat_cmp} es) q ≡ lookup (eqb q) es
get_at_number es q = get-from_entries nat_cmp_total es q ∙ find-lookup eqb nat_cmp unsigned_ties es q

-- what it has at a cell
pub get_at_position : {X : Type 0} (es : List (Position × X)) (q : Position) → get (from_entries {R = position_cmp} es) q ≡ lookup (position_eq q) es
get_at_position es q = get-from_entries position_total es q ∙ find-lookup position_eq position_cmp position_ties es q

-- no two positions are equal by the test
pub exact_position_eq : (p q : Position) → position_eq p q ≡ true → p ≡ q
exact_position_eq p q h = grind (arith, and_parts, eqb-true)

pub position_equiv : IsEquivalence position_eq
position_equiv = and_equiv (on_equiv (λ p. p.row) nat_eq_equiv) (on_equiv (λ p. p.col) nat_eq_equiv)

-- nor by their order
pub exact_position : (p q : Position) → eq_by_cmp position_cmp p q ≡ true → p ≡ q
exact_position p q h = exact_position_eq p q (position_ties p q ∙ h)
