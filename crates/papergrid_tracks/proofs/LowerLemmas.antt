-- What the loop that lowers boundaries keeps.
use Rattle.std.proofs.Common.{◌≡◌, ℕ, ◌+◌, ◌-◌, ◌<◌, ◌≤◌, min, List, length, get_or}
use Rattle.papergrid_tracks.specs.TrackBoundaries.{boundaries_of}

-- where the boundary of the sizes before track i is, once it is lowered to its highest position
abbrev pub lowered : List ℕ → List ℕ → ℕ → ℕ
lowered old highest i = min (boundaries_of old i) (get_or highest i 0)

-- the sizes before track i are those between lowered boundaries, and the others are as they were
pub record LoweredTo (old highest : List ℕ) (i : ℕ) (sizes : List ℕ) (given boundary : ℕ) : Type 0 where
  pub same_length : length sizes ≡ length old
  pub given_here : given ≡ min (boundaries_of old i) 18446744073709551615
  pub boundary_here : boundary ≡ lowered old highest i
  pub done : (k : ℕ) → k < i → get_or sizes k 0 ≡ lowered old highest (k + 1) - lowered old highest k
  pub left : (k : ℕ) → i ≤ k → get_or sizes k 0 ≡ get_or old k 0
