-- Lines as they are counted.
use Rattle.std.specs.Prelude.{◌≡◌, ℕ, ◌+◌, ◌≤◌, Bool, List, count_by, length, slice_index, take}

-- for each track, and for the end, how many lines are drawn before it
pub record AreCountsBefore (drawn : List Bool) (counts : List ℕ) : Type 0 where
  pub one_more : length counts ≡ length drawn + 1
  pub before : (i : ℕ) → i ≤ length drawn → slice_index counts i ≡ count_by (λ x. x) (take i drawn)
