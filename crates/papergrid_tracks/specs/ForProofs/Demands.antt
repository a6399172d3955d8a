-- What a walk over cells gathers of their demands.
use Rattle.std.specs.Prelude.{◌≡◌, ℕ, ◌<◌, ◌≤◌, ◌^◌, ◌&&◌, ◌==◌, Bool, true, false, if◌then◌else◌, not, nat_lt, nat_le, List, ◌++◌, map, filter, find, unwrap_or, All, AllPairs, slice_index_or}
use Rattle.std.specs.List.{list_any}
use Rattle.papergrid_tracks.specs.declared.demand.Demand.{Demand}
use Rattle.papergrid_tracks.specs.declared.demands.Demands.{Demands}
use Rattle.papergrid_values.specs.Positions.{IsBefore}
use Rattle.papergrid_tracks.specs.Ranges.{position_of}
use Rattle.papergrid_tracks.specs.Sizes.{base_size}

-- whether the minimum size is past the greatest `usize`
abbrev pub is_large : Demand → Bool
is_large d = nat_le (2 ^ 64) d.minimum

-- the cell's position and its range alone
abbrev pub without_minimum : Demand → Demand
without_minimum d = record { row = d.row; col = d.col; start = d.start; span = d.span; minimum = 0 }

-- whether the cell covers one track alone, below the limit
abbrev pub is_single : ℕ → Demand → Bool
is_single limit d = d.span == 1 && nat_lt d.start limit

-- the rest of the cells, which are kept as they come
abbrev pub rest_of : ℕ → List Demand → List Demand
rest_of limit demands = filter (λ d. not (is_single limit d)) demands

-- a cell of minimum size 0
abbrev pub no_demand : Demand
no_demand = record { row = 0; col = 0; start = 0; span = 1; minimum = 0 }

-- of the cells that cover i alone, the first of greatest minimum size; none where all are 0
unfoldable pub first_greatest : ℕ → List Demand → Demand
first_greatest i demands =
    if base_size demands i == 0 then no_demand
    else unwrap_or (find (λ d. d.span == 1 && d.start == i && d.minimum == base_size demands i) demands) no_demand

-- what is kept for track i once one more cell is met: that, if it covers i alone and needs more
abbrev pub gathered_for : ℕ → Demand → Demand → Demand
gathered_for i kept d = if (d.span == 1 && d.start == i) && nat_lt kept.minimum d.minimum then d else kept

-- these demands were kept by a limit: ranges, whether a minimum size is large, and, where none is, the demands themselves
pub record HoldsDemands (limit : ℕ) (kept : Demands) (demands : List Demand) : Type 0 where
  pub limit_is : kept.limit ≡ limit
  pub ranges : map without_minimum kept.rest.items ≡ map without_minimum (rest_of limit demands)
  pub large : kept.is_large ≡ list_any is_large demands
  pub exact : kept.is_large ≡ false → kept.rest.items ≡ rest_of limit demands
  pub single_span : kept.is_large ≡ false → (i : ℕ) → i < limit → slice_index_or kept.single_span.items i no_demand ≡ first_greatest i demands
  pub spans : All (λ d. 1 ≤ d.span) demands

-- whatever was kept, these further demands are kept besides
abbrev pub AddsDemands : Demands → Demands → List Demand → Type 0
AddsDemands old new further = (limit : ℕ) (demands : List Demand) → HoldsDemands limit old demands → HoldsDemands limit new (demands ++ further)

-- the cells stand by row and then by column
abbrev pub StandInOrder : List Demand → Type 0
StandInOrder demands = AllPairs (λ d e. IsBefore (position_of d) (position_of e)) demands

-- these are the demands of a table of n tracks, and they were kept by a limit that tells which of those that cover one track
-- alone are in the table
pub record AreGathered (n : ℕ) (kept : Demands) (demands : List Demand) : Type 0 where
  pub limit : ℕ
  pub held : HoldsDemands limit kept demands
  pub from_limit : n ≤ limit
  pub below : All (λ d. is_single limit d ≡ true → d.start < n) demands
