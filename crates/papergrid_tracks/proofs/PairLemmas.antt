-- A list of positions of which any two are related, one by one.
use Rattle.std.proofs.Common.{ℕ, ◌+◌, ◌<◌, List, length, get_or, take, arith, get_or-take}
use Rattle.std.specs.Prelude.{All, AllPairs}
use Rattle.std.proofs.lemmas.Bool.{cases_eq}
use Rattle.std.proofs.lemmas.List.{get_or_default, length-take}
use Rattle.papergrid_values.specs.declared.position.Position.{Position}

module _ (R : Position → Position → Type 0) (R-sym : (p q : Position) → R p q → R q p) (positions : List Position) (i : ℕ) (e : Position) (l : i < length positions) where
  -- one more position, related to those before it
  pub pairs-more : ((j k : ℕ) (p : Position) → j < k → k < i → R (get_or positions j p) (get_or positions k p)) → All (R (get_or positions i e)) (take i positions) →
      (j k : ℕ) (p : Position) → j < k → k < i + 1 → R (get_or positions j p) (get_or positions k p)
  pairs-more before all j k p lt lt' = grind (arith, cases_eq, length-take, get_or_default, get_or-take)

  -- a position of a list of related ones is related to those before it
  pub pairs-before : AllPairs R positions → All (R (get_or positions i e)) (take i positions)
  pairs-before pairs j p inside = grind (arith, length-take, get_or_default, get_or-take)
