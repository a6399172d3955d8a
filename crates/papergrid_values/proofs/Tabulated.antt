-- The finite map of some keys, each with its value where it has one.
use Rattle.std.specs.Prelude.{List, [], ◌∷◌, Option, Some, None}
use Rattle.std.specs.declared.cmp.Ordering.{Ordering}
use Rattle.std.specs.FinMap.{FinMap, empty, insert}

-- a map, with a value at a key where there is one
abbrev pub with_value : {K X : Type 0} {R : K → K → Ordering} → FinMap R X → K → Option X → FinMap R X
with_value m key None = m
with_value m key (Some v) = insert m key v

-- the value of each of these keys that has one
abbrev pub tabulation : {K X : Type 0} {R : K → K → Ordering} → (K → Option X) → List K → FinMap R X
tabulation value [] = empty
tabulation value (key ∷ keys) = with_value (tabulation value keys) key (value key)
