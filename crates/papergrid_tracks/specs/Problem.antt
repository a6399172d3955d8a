-- What the sizes along a direction are found for.
use Rattle.std.specs.Prelude.{ℕ, ◌+◌, Bool, List, sum}
use Rattle.papergrid_values.specs.Lines.{all_lines}
use Rattle.papergrid_tracks.specs.declared.demand.Demand.{Demand}

-- how many tracks there are, whether a line is drawn at i, and what the visible cells ask for. The line at i is before
-- track i or, at the count, after the last. The cells stand by row and then by column
pub record Problem : Type 0 where
  pub count : ℕ
  pub line : ℕ → Bool
  pub demands : List Demand

-- the problem of these lines, so many tracks and these demands
abbrev pub problem_of_demands : (ℕ → Bool) → ℕ → List Demand → Problem
problem_of_demands line count demands = record { count = count; line = line; demands = demands }

-- the sum of the sizes and of all lines
abbrev pub total_of : Problem → List ℕ → ℕ
total_of problem sizes = sum sizes + all_lines problem.line problem.count
