-- Worked tables of three columns and no lines, where two cells cross.
use Rattle.std.specs.Prelude.{◌≡◌, ℕ, false, [], ◌∷◌}
use Rattle.papergrid_tracks.specs.declared.demand.Demand.{Demand}
use Rattle.papergrid_tracks.specs.Problem.{Problem, problem_of_demands}
use Rattle.papergrid_tracks.specs.Sizes.{sizes_of}
use Rattle.papergrid_tracks.specs.Least.{AreFurthestRight}
use Rattle.papergrid_tracks.specs.CriticalPath.{IsCriticalPath}

-- a cell over columns 0 and 1
abbrev pub left_cell : ℕ → Demand
left_cell minimum = record { row = 0; col = 0; start = 0; span = 2; minimum = minimum }

-- a cell over columns 1 and 2
abbrev pub right_cell : ℕ → Demand
right_cell minimum = record { row = 1; col = 1; start = 1; span = 2; minimum = minimum }

-- the two of the same minimum size
abbrev pub crossing_cells : ℕ → Problem
crossing_cells minimum = problem_of_demands (λ i. false) 3 (left_cell minimum ∷ right_cell minimum ∷ [])

-- what they come to, by shares and at the least
pub record CrossingWorked : Type 0 where
  pub by_shares : sizes_of (crossing_cells 4) ≡ 2 ∷ 3 ∷ 1 ∷ []
  pub least : AreFurthestRight (crossing_cells 4) (0 ∷ 4 ∷ 0 ∷ [])
  pub certified : IsCriticalPath (crossing_cells 4) (left_cell 4 ∷ [])
  pub larger_shares : sizes_of (crossing_cells 10) ≡ 5 ∷ 8 ∷ 2 ∷ []
  pub larger_least : AreFurthestRight (crossing_cells 10) (0 ∷ 10 ∷ 0 ∷ [])
  pub larger_certified : IsCriticalPath (crossing_cells 10) (left_cell 10 ∷ [])
