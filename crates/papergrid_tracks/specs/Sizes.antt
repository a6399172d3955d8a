-- The sizes along a direction: the minimum sizes of cells of one track, and then the deficits of those of longer ranges.
use Rattle.std.specs.Prelude.{ℕ, ◌+◌, ◌-◌, ◌/◌, ◌%◌, Bool, ◌&&◌, ◌==◌, if◌then◌else◌, List, length, map, filter, flat_map, fold, slice_index}
use Rattle.std.specs.List.{range_with_len}
use Rattle.papergrid_tracks.specs.declared.demand.Demand.{Demand}
use Rattle.papergrid_tracks.specs.Problem.{Problem}
use Rattle.papergrid_tracks.specs.Ranges.{holds, inner_lines}
use Rattle.papergrid_tracks.specs.Fits.{greatest_minimum, range_sum}

-- the greatest minimum size of the cells that cover i alone
abbrev pub base_size : List Demand → ℕ → ℕ
base_size demands i = greatest_minimum (λ d. d.span == 1 && d.start == i) demands

-- these minimum sizes for each of n tracks
abbrev pub base_sizes : ℕ → List Demand → List ℕ
base_sizes n demands = map (base_size demands) (range_with_len 0 n)

-- how much the sizes in the range, with the lines inside of it, fall short of the minimum size
abbrev pub deficit : (ℕ → Bool) → List ℕ → Demand → ℕ
deficit line sizes d = d.minimum - (range_sum sizes d + inner_lines line d)

-- what track i gets of an amount: each of the range the same, and its first what is left over
abbrev pub share : ℕ → Demand → ℕ → ℕ
share amount d i =
    if i == d.start then amount / d.span + amount % d.span else (if holds d i then amount / d.span else 0)

-- these sizes, each with its share
abbrev pub distributed : ℕ → Demand → List ℕ → List ℕ
distributed amount d sizes =
    map (λ i. slice_index sizes i + share amount d i) (range_with_len 0 (length sizes))

-- the sizes after the cell was taken: its deficit is distributed evenly over its range
abbrev pub grown_sizes : (ℕ → Bool) → List ℕ → Demand → List ℕ
grown_sizes line sizes d = distributed (deficit line sizes d) d sizes

-- the cells of longer ranges in the order in which they are taken, by (span, row, column). Those of span 2 come first,
-- then those of span 3, and so on up to n
abbrev pub by_span : ℕ → List Demand → List Demand
by_span n demands = flat_map (λ span. filter (λ d. d.span == span) demands) (range_with_len 2 (n - 1))

-- the sizes after they were taken
abbrev pub sizes_of : Problem → List ℕ
sizes_of problem =
    fold (grown_sizes problem.line) (base_sizes problem.count problem.demands) (by_span problem.count problem.demands)
