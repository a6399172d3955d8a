-- Room for each cell, the least total, and what shows that a total is least.
use Rattle.std.specs.Prelude.{◌≡◌, ℕ, ◌+◌, ◌^◌, ◌≤◌, max, Bool, List, [], ◌∷◌, map, length, take, drop, filter, sum, sum_by, All, AllPairs, Contains}
use Rattle.papergrid_tracks.specs.declared.demand.Demand.{Demand}
use Rattle.papergrid_tracks.specs.Problem.{Problem, total_of}
use Rattle.papergrid_tracks.specs.Ranges.{holds, inner_lines, AreDisjoint}

-- the sum of the sizes in the range
abbrev pub range_sum : List ℕ → Demand → ℕ
range_sum sizes d = sum (take d.span (drop d.start sizes))

-- the sizes in the cell's range, with the lines inside of it, come to its minimum size
abbrev pub HasRoom : (ℕ → Bool) → List ℕ → Demand → Type 0
HasRoom line sizes d = d.minimum ≤ range_sum sizes d + inner_lines line d

-- one size for each track, and room for each cell
pub record Fits (problem : Problem) (sizes : List ℕ) : Type 0 where
  pub one_each : length sizes ≡ problem.count
  pub room : All (HasRoom problem.line sizes) problem.demands

-- the sizes fit, and no list that fits has a smaller total
pub record IsLeast (problem : Problem) (sizes : List ℕ) : Type 0 where
  pub fits : Fits problem sizes
  pub least : (other : List ℕ) → Fits problem other → sum sizes ≤ sum other

-- the total with all lines is past the greatest `usize`
abbrev pub IsTooLarge : Problem → List ℕ → Type 0
IsTooLarge problem sizes = 2 ^ 64 ≤ total_of problem sizes

-- the greatest of some numbers, 0 where there is none
abbrev pub greatest : List ℕ → ℕ
greatest [] = 0
greatest (x ∷ xs) = max x (greatest xs)

-- the greatest minimum size of the cells that pass the test
abbrev pub greatest_minimum : (Demand → Bool) → List Demand → ℕ
greatest_minimum test demands = greatest (map (λ d. d.minimum) (filter test demands))

-- the greatest minimum size of a cell whose range holds i
abbrev pub top_minimum : List Demand → ℕ → ℕ
top_minimum demands i = greatest_minimum (λ d. holds d i) demands

-- visible cells of pairwise disjoint ranges, whose minimum sizes less their inner lines add up to the total
pub record IsCertificate (problem : Problem) (sizes : List ℕ) (cells : List Demand) : Type 0 where
  pub visible : All (Contains problem.demands) cells
  pub disjoint : AllPairs AreDisjoint cells
  pub adds_up : sum_by (λ d. d.minimum) cells ≡ sum sizes + sum_by (inner_lines problem.line) cells
