-- What is known before the cells of longer ranges are taken, and once they were.
use Rattle.std.specs.Prelude.{◌≡◌, ℕ, ◌+◌, ◌^◌, ◌<◌, ◌≤◌, Bool, false, List, None, length, slice_index, slice_index_or, All, filter, nat_lt}
use Rattle.papergrid_tracks.specs.declared.demand.Demand.{Demand}
use Rattle.papergrid_tracks.specs.declared.demands.Demands.{Demands}
use Rattle.papergrid_tracks.specs.ForProofs.Demands.{no_demand}
use Rattle.papergrid_tracks.specs.Problem.{Problem, total_of}
use Rattle.papergrid_tracks.specs.Certificates.{growing_cells_of}
use Rattle.papergrid_tracks.specs.Ranges.{IsInTable, first_out}
use Rattle.papergrid_tracks.specs.Sizes.{sizes_of, by_span}

-- whether a line is drawn, by a list that says so of each number; none past its end
abbrev pub line_at : List Bool → ℕ → Bool
line_at lines i = slice_index_or lines i false

-- the cells of longer ranges
abbrev pub longer : List Demand → List Demand
longer demands = filter (λ d. nat_lt 1 d.span) demands

-- what the sizes of n tracks begin with: the lines, and the minimum size that is kept for each track, where no kept cell
-- overflows the table or has a large minimum size
pub record IsBegun (line : ℕ → Bool) (n : ℕ) (kept : Demands) (lines : List Bool) (base : List ℕ) : Type 0 where
  pub inside : first_out n kept.rest.items ≡ None
  pub small : kept.is_large ≡ false
  pub lined : length lines ≡ n + 1
  pub drawn : (i : ℕ) → i ≤ n → line_at lines i ≡ line i
  pub many : length base ≡ n
  pub base_at : (k : ℕ) → k < length base → slice_index base k ≡ (slice_index_or kept.single_span.items k no_demand).minimum

-- the sizes by shares, the cells as they were taken and those that grew
pub record AreGrown (problem : Problem) (sizes : List ℕ)
    (cells growing_cells : List Demand) : Type 0 where
  pub table : All (IsInTable problem.count) problem.demands
  pub shares : sizes ≡ sizes_of problem
  pub in_order : cells ≡ by_span problem.count problem.demands
  pub grew : growing_cells ≡ growing_cells_of problem
  pub total : total_of problem (sizes_of problem) < 2 ^ 64
