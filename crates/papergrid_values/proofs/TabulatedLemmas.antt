-- What the finite map of some keys has at a key.
use Rattle.std.proofs.Common.{◌≡◌, Bool, true, false, cond, ◌&&◌, List, [], ◌∷◌, Option, Some, None, refl, sym, ap, ◌∙◌, arith}
use Rattle.std.specs.Prelude.{◌||◌, is_some}
use Rattle.std.specs.Cmp.{IsTotalOrder}
use Rattle.std.specs.List.{list_any}
use Rattle.std.specs.Ordering.{eq_by_cmp}
use Rattle.std.specs.declared.cmp.Ordering.{Ordering}
use Rattle.std.specs.FinMap.{FinMap, get, get-empty, get-insert}
use Rattle.std.proofs.lemmas.Bool.{false≢true}
use Rattle.papergrid_values.proofs.Tabulated.{tabulation, with_value}

module _ {K X : Type 0} {R : K → K → Ordering} (total : IsTotalOrder R) (exact : (x y : K) → eq_by_cmp R x y ≡ true → x ≡ y) (value : K → Option X) where
  get-with_value : (m : FinMap R X) (k : K) (o : Option X) (q : K) → value k ≡ o → get (with_value m k o) q ≡ cond (eq_by_cmp R q k && is_some o) (value q) (get m q)
  get-with_value m k None q is = elim (eq_by_cmp R q k) as (λ b. get m q ≡ cond (b && false) (value q) (get m q)) [ true ↦ refl | false ↦ refl ]
  get-with_value m k (Some v) q is =
      get-insert total m k v q
      ∙ (elim (eq_by_cmp R q k) as (λ b. eq_by_cmp R q k ≡ b → cond b (Some v) (get m q) ≡ cond (b && true) (value q) (get m q)) [
        | true ↦ λ ties. sym is ∙ ap value (sym (exact q k ties))
        | false ↦ λ apart. refl
      ] refl)

  named_or : (b s n : Bool) (x rest : Option X) → (s ≡ false → b ≡ true → x ≡ None) → rest ≡ cond n x None → cond (b && s) x rest ≡ cond (b || n) x None
  named_or true true n x rest none is = refl
  named_or true false true x rest none is = is
  named_or true false false x rest none is = is ∙ sym (none refl refl)
  named_or false s n x rest none is = is

  none_set : (o : Option X) → is_some o ≡ false → o ≡ None
  none_set None h = refl
  none_set (Some v) h = absurd (false≢true (sym h))

  pub get-tabulated : (keys : List K) (q : K) → get (tabulation {R = R} value keys) q ≡ cond (list_any (eq_by_cmp R q) keys) (value q) None
  get-tabulated [] q = get-empty R q
  get-tabulated (k ∷ keys) q = grind (arith, get-with_value, tabulation, named_or, none_set, get-tabulated keys q)

  stored_or_none : (b : Bool) (x : Option X) → (is_some x ≡ true → b ≡ true) → cond b x None ≡ x
  stored_or_none true x named = refl
  stored_or_none false None named = refl
  stored_or_none false (Some v) named = absurd (false≢true (named refl))

  -- where each key that has a value is among them
  pub tabulates : (keys : List K) → ((q : K) → is_some (value q) ≡ true → list_any (eq_by_cmp R q) keys ≡ true) → (q : K) → get (tabulation {R = R} value keys) q ≡ value q
  tabulates keys named q = get-tabulated keys q ∙ stored_or_none _ (value q) (named q)
