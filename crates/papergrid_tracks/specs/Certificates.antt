-- The cells of the certificate that the sizes are least.
use Rattle.std.specs.Prelude.{ℕ, Bool, ◌&&◌, ◌==◌, nat_lt, nat_le, if◌then◌else◌, List, [], ◌∷◌, filter_map, find, slice_index, Option, None}
use Rattle.std.specs.List.{range_with_len, list_any}
use Rattle.std.specs.Option.{option_or}
use Rattle.papergrid_tracks.specs.declared.demand.Demand.{Demand}
use Rattle.papergrid_tracks.specs.Problem.{Problem}
use Rattle.papergrid_tracks.specs.Ranges.{end_of, holds}
use Rattle.papergrid_tracks.specs.Sizes.{deficit, grown_sizes, base_sizes, sizes_of, by_span}

-- the cells that grow, in the order in which they are taken: those with a deficit when they are
abbrev pub growing_demands : (ℕ → Bool) → List ℕ → List Demand → List Demand
growing_demands line sizes [] = []
growing_demands line sizes (d ∷ rest) =
    if nat_lt 0 (deficit line sizes d) then d ∷ growing_demands line (grown_sizes line sizes d) rest
    else growing_demands line (grown_sizes line sizes d) rest

-- whether one range is part of the other
abbrev pub lies_in : Demand → Demand → Bool
lies_in a b = nat_le b.start a.start && nat_le (end_of a) (end_of b)

-- the cells whose range lies in no later cell's range
abbrev pub outermost : List Demand → List Demand
outermost [] = []
outermost (d ∷ later) = if list_any (lies_in d) later then outermost later else d ∷ outermost later

-- the first cell that covers i alone and has its size as its minimum size
abbrev pub exact_single : List Demand → List ℕ → ℕ → Option Demand
exact_single demands sizes i = find (λ d. d.span == 1 && d.start == i && d.minimum == slice_index sizes i) demands

-- the same, where i is in no growing cell's range and its size is above 0
abbrev pub single_at : List Demand → List Demand → List ℕ → ℕ → Option Demand
single_at demands growing_cells sizes i =
    if list_any (λ d. holds d i) growing_cells then None
    else (if slice_index sizes i == 0 then None else exact_single demands sizes i)

-- the outermost growing cells and the single ones, by the start of their ranges
abbrev pub certificate_cells : ℕ → List Demand → List Demand → List ℕ → List Demand
certificate_cells n demands growing_cells sizes =
    filter_map (λ i. option_or (find (λ d. d.start == i) (outermost growing_cells)) (single_at demands growing_cells sizes i))
    (range_with_len 0 n)

-- the cells that grow of a problem
abbrev pub growing_cells_of : Problem → List Demand
growing_cells_of problem =
    growing_demands problem.line (base_sizes problem.count problem.demands) (by_span problem.count problem.demands)

-- the cells of the certificate
abbrev pub certificate_cells_of : Problem → List Demand
certificate_cells_of problem = certificate_cells problem.count problem.demands (growing_cells_of problem) (sizes_of problem)
