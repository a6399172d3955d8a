-- When two finite maps hold the same: at each key of either, both have a value and the two are equal.
use Rattle.std.specs.Prelude.{Bool, nat_eq}
use Rattle.std.specs.HashMap.{entries_eq}
use Rattle.std.specs.FinMap.{FinMap, entries}
use Rattle.std.specs.Ordering.{nat_cmp}
use Rattle.papergrid_values.specs.MapKeys.{position_cmp, position_eq}

module _ {X : Type 0} (eq : X → X → Bool) where
  -- of maps by number
  abbrev pub numbers_eq : FinMap nat_cmp X → FinMap nat_cmp X → Bool
  numbers_eq m n = entries_eq nat_eq (λ p q. eq p.1 q.1) (entries m) (entries n)

  -- of maps by position
  abbrev pub positions_eq : FinMap position_cmp X → FinMap position_cmp X → Bool
  positions_eq m n = entries_eq position_eq (λ p q. eq p.1 q.1) (entries m) (entries n)
