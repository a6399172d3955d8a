-- Boundaries as they are laid, in order: by the minimum size of each track alone, and by the cells of longer ranges.
use Rattle.std.specs.Prelude.{ℕ, ◌+◌, ◌<◌, ◌≤◌, List, length, slice_index, slice_index_or, All}
use Rattle.papergrid_tracks.specs.declared.demand.Demand.{Demand}
use Rattle.papergrid_tracks.specs.Ranges.{end_of}

-- each boundary is past the one to its left by the minimum size of the track between alone, from track a on, up to b
abbrev pub AreSteps : List ℕ → ℕ → ℕ → (ℕ → ℕ) → Type 0
AreSteps base a b boundary = (i : ℕ) → a ≤ i → i < b → boundary i + slice_index base i ≤ boundary (i + 1)

-- the boundaries round each range are as far apart as its cell needs
abbrev pub AreSpaced : List Demand → (ℕ → ℕ) → Type 0
AreSpaced cells boundary = All (λ d. boundary d.start + d.minimum ≤ boundary (end_of d)) cells

-- boundaries by the minimum size of each track alone and by the cells of longer ranges
pub record AreLaid (base : List ℕ) (cells : List Demand) (boundary : ℕ → ℕ) : Type 0 where
  pub steps : AreSteps base 0 (length base) boundary
  pub apart : AreSpaced cells boundary

-- no cell starts after one before it in the list
abbrev pub AreLaterFirst : List Demand → Type 0
AreLaterFirst cells =
    (i j : ℕ) (d : Demand) → i ≤ j → j < length cells → (slice_index_or cells j d).start ≤ (slice_index_or cells i d).start

-- the cell with what it asks in place of its minimum size
abbrev pub with_net_minimum : (Demand → ℕ) → Demand → Demand
with_net_minimum asks d = record d { minimum = asks d }
