-- The values of options.
use Rattle.std.proofs.Common.{◌≡◌, ◌≢◌, ◌++◌, ◌∷◌, [], ℕ, List, Bool, true, false, cond, None, refl, sym, ap}
use Rattle.std.specs.Prelude.{◌==◌}
use Rattle.std.specs.Char.{encode_utf8}
use Rattle.std.proofs.lemmas.Bool.{eqb-true}
use Rattle.papergrid_script.specs.Grammar.{number_said}
use Rattle.papergrid_table.specs.Values.{column_number}

-- a name that does not begin with `c` has no number
pub no_number : (name : List ℕ) → ((rest : List ℕ) → name ≢ encode_utf8 99 ++ rest) → None ≡ column_number name
unfolding column_number encode_utf8
no_number [] other = refl
no_number (b ∷ bs) other = by (b == 99) refl
  where
    by : (same : Bool) → b == 99 ≡ same → None ≡ cond (b == 99) (number_said bs) None
    by true e = absurd (other bs (ap (λ b. b ∷ bs) (eqb-true _ _ e)))
    by false e = sym (ap (λ same. cond same (number_said bs) None) e)
