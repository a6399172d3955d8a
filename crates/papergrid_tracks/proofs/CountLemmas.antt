-- What the loop that counts lines keeps.
use Rattle.std.proofs.Common.{◌≡◌, ℕ, ◌<◌, ◌≤◌, Bool, List, length, get_or, take, count_by, arith}
use Rattle.std.proofs.lemmas.List.{length-take-le}
use Rattle.std.proofs.lemmas.List.Sums.{count_by-le-length}

-- how many of the first i lines are drawn, and the counts before each of these lines
pub record CountedTo (drawn : List Bool) (i : ℕ) (counts : List ℕ) (count : ℕ) : Type 0 where
  pub one_each : length counts ≡ i
  pub in_all : count ≡ count_by (λ x. x) (take i drawn)
  pub before : (k : ℕ) → k < i → get_or counts k 0 ≡ count_by (λ x. x) (take k drawn)

pub count-le : (drawn : List Bool) (i : ℕ) (counts : List ℕ) (count : ℕ) → CountedTo drawn i counts count → i ≤ length drawn → count ≤ i
count-le drawn i counts count counted le = grind (arith, count_by-le-length, length-take-le)
