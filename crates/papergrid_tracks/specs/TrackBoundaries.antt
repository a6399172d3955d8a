-- Where the tracks begin, without the lines: the boundary at i is the sum of the sizes before track i.
use Rattle.std.specs.Prelude.{ℕ, ◌+◌, ◌-◌, ◌<◌, ◌≤◌, Bool, List, map, take, sum, All}
use Rattle.std.specs.List.{range_with_len}
use Rattle.papergrid_tracks.specs.declared.demand.Demand.{Demand}
use Rattle.papergrid_tracks.specs.Ranges.{end_of, inner_lines}

-- what the sizes in the cell's range are to come to: its minimum size less the lines inside of it
abbrev pub net_minimum : (ℕ → Bool) → Demand → ℕ
net_minimum line d = d.minimum - inner_lines line d

-- the boundaries of these sizes
abbrev pub boundaries_of : List ℕ → ℕ → ℕ
boundaries_of sizes i = sum (take i sizes)

-- no boundary is before the one to its left, and the boundaries round each range are as far apart as its cell asks
pub record AreBoundaries (asks : Demand → ℕ) (n : ℕ) (demands : List Demand) (boundary : ℕ → ℕ) : Type 0 where
  pub rise : (i : ℕ) → i < n → boundary i ≤ boundary (i + 1)
  pub apart : All (λ d. boundary d.start + asks d ≤ boundary (end_of d)) demands

-- the lowest positions of the boundaries: they are boundaries, and no boundaries are below them
pub record AreLowest (asks : Demand → ℕ) (n : ℕ) (demands : List Demand) (lowest : ℕ → ℕ) : Type 0 where
  pub boundaries : AreBoundaries asks n demands lowest
  pub below : (boundary : ℕ → ℕ) → AreBoundaries asks n demands boundary → (i : ℕ) → i ≤ n → lowest i ≤ boundary i

-- the sizes between the boundaries
abbrev pub sizes_between : ℕ → (ℕ → ℕ) → List ℕ
sizes_between n boundary = map (λ i. boundary (i + 1) - boundary i) (range_with_len 0 n)
