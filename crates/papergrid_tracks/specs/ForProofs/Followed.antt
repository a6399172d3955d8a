-- Going back along the lowest positions of the boundaries, by what is kept of the cells.
use Rattle.std.specs.Prelude.{ℕ, zero, suc, ◌-◌, Bool, ◌&&◌, ◌||◌, ◌==◌, nat_lt, if◌then◌else◌, List, [], ◌∷◌, Option, Some, None, slice_index_or}
use Rattle.papergrid_values.specs.declared.position.Position.{Position}
use Rattle.papergrid_tracks.specs.declared.demand.Demand.{Demand}
use Rattle.papergrid_tracks.specs.Ranges.{position_of}
use Rattle.papergrid_tracks.specs.ForProofs.Demands.{no_demand}

-- whether one position comes before another, by row and then by column
abbrev pub is_before : Position → Position → Bool
is_before p q = nat_lt p.row q.row || (p.row == q.row && nat_lt p.col q.col)

-- of two cells the earlier by row and then by column, at one position the first of the two; where there is one, that
abbrev pub earlier_cell : Option Demand → Option Demand → Option Demand
earlier_cell None other = other
earlier_cell (Some d) None = Some d
earlier_cell (Some d) (Some e) = if is_before (position_of e) (position_of d) then Some e else Some d

-- the cell, where it needs so much
abbrev pub with_minimum : ℕ → Demand → Option Demand
with_minimum step d = if d.minimum == step then Some d else None

-- the cell, and then those before its range
abbrev pub with_earlier : Option Demand → (ℕ → List Demand) → List Demand
with_earlier None earlier = []
with_earlier (Some d) earlier = d ∷ earlier d.start

-- the cells met going back from the boundary at i: over a boundary without a tight cell to the one before, else from the earlier
-- of two cells to where its range starts: what is kept for the number before it, where that needs what lies between the two
-- boundaries, and the cell of a longer range that is kept for the boundary
abbrev pub followed_cells : (ℕ → ℕ) → (ℕ → Demand) → (ℕ → Option Demand) → ℕ → ℕ → List Demand
followed_cells boundary single longer zero i = []
followed_cells boundary single longer (suc steps) i =
    if boundary i - boundary (i - 1) == 0 then followed_cells boundary single longer steps (i - 1)
    else with_earlier (earlier_cell (with_minimum (boundary i - boundary (i - 1)) (single (i - 1))) (longer i)) (followed_cells boundary single longer steps)

-- what is kept for a track alone
abbrev pub kept_single : List Demand → ℕ → Demand
kept_single single_span i = slice_index_or single_span i no_demand

-- the cell of a longer range that is kept for a boundary
abbrev pub kept_longer : List (Option Demand) → ℕ → Option Demand
kept_longer tight_cells i = slice_index_or tight_cells i None
