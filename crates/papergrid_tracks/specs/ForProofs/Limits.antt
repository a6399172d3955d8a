-- The lowest and the highest positions of the boundaries as lists.
use Rattle.std.specs.Prelude.{◌≡◌, ℕ, ◌+◌, ◌^◌, ◌<◌, ◌≤◌, Bool, List, length, map, slice_index, ⊤}
use Rattle.papergrid_values.specs.Lines.{all_lines}
use Rattle.papergrid_tracks.specs.declared.demand.Demand.{Demand}
use Rattle.papergrid_tracks.specs.declared.error.LayoutError.{LayoutError}
use Rattle.papergrid_tracks.specs.declared.error.LayoutError.TheVariants.{OutOfTable, TooLarge, Memory}
use Rattle.papergrid_tracks.specs.declared.limits.Limits.{Limits}
use Rattle.papergrid_tracks.specs.TrackBoundaries.{net_minimum}
use Rattle.papergrid_tracks.specs.ForProofs.Laid.{AreLaid, with_net_minimum}

-- too large, of which this is known; an allocation may fail in place of any answer
abbrev pub Refuses : Type 0 → LayoutError → Type 0
Refuses too_large (OutOfTable position) = ⊥
Refuses too_large TooLarge = too_large
Refuses too_large (Memory e) = ⊤

module _ (base : List ℕ) (cells : List Demand) where
  -- boundaries, and none are below them
  pub record AreLowestBoundaries (boundaries : List ℕ) : Type 0 where
    pub one_more : length boundaries ≡ length base + 1
    pub laid : AreLaid base cells (slice_index boundaries)
    pub below : (boundary : ℕ → ℕ) → AreLaid base cells boundary → (i : ℕ) → i ≤ length base → slice_index boundaries i ≤ boundary i

  -- boundaries that end at the total, and none that end there or before are above them
  pub record AreHighestBoundaries (total : ℕ) (boundaries : List ℕ) : Type 0 where
    pub one_more : length boundaries ≡ length base + 1
    pub last : slice_index boundaries (length base) ≡ total
    pub laid : AreLaid base cells (slice_index boundaries)
    pub above : (boundary : ℕ → ℕ) → AreLaid base cells boundary → boundary (length base) ≤ total → (i : ℕ) → i ≤ length base → boundary i ≤ slice_index boundaries i

-- both, and a total that fits with all lines
pub record AreLimits (line : ℕ → Bool) (base : List ℕ) (cells : List Demand) (limits : Limits) : Type 0 where
  pub lowest_position : AreLowestBoundaries base cells limits.lowest_position.items
  pub highest_position : AreHighestBoundaries base cells (slice_index limits.lowest_position.items (length base)) limits.highest_position.items
  pub total : limits.total ≡
      slice_index limits.lowest_position.items (length base) + all_lines line (length base)
  pub fits : limits.total < 2 ^ 64

module _ (line : ℕ → Bool) (base : List ℕ) (cells : List Demand) where
  -- what the cells ask for, less the lines inside of their ranges
  abbrev pub asked : List Demand
  asked = map (with_net_minimum (net_minimum line)) cells

  -- the limits of what they ask for so
  abbrev pub AreLimitsOf : Limits → Type 0
  AreLimitsOf limits = AreLimits line base asked limits

  -- all boundaries that are laid for it come, with all lines, to more than the greatest `usize`
  abbrev pub AreAllTooLarge : Type 0
  AreAllTooLarge = (boundary : ℕ → ℕ) → AreLaid base asked boundary → 2 ^ 64 ≤ boundary (length base) + all_lines line (length base)
