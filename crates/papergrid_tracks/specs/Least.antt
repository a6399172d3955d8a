-- The sizes of the least total.
use Rattle.std.specs.Prelude.{ℕ, ◌≤◌, List}
use Rattle.papergrid_tracks.specs.Problem.{Problem}
use Rattle.papergrid_tracks.specs.Fits.{IsLeast}
use Rattle.papergrid_tracks.specs.Sizes.{sizes_of}
use Rattle.papergrid_tracks.specs.TrackBoundaries.{boundaries_of}

-- least sizes whose boundaries are nowhere past those of the sizes by shares
pub record AreLeastBefore (problem : Problem) (sizes : List ℕ) : Type 0 where
  pub least : IsLeast problem sizes
  pub nowhere_past : (i : ℕ) → i ≤ problem.count → boundaries_of sizes i ≤ boundaries_of (sizes_of problem) i

-- of all such sizes those whose boundaries are furthest to the right
pub record AreFurthestRight (problem : Problem) (sizes : List ℕ) : Type 0 where
  pub among : AreLeastBefore problem sizes
  pub furthest : (other : List ℕ) → AreLeastBefore problem other →
      (i : ℕ) → i ≤ problem.count → boundaries_of other i ≤ boundaries_of sizes i
