-- Cells one after another that ask for the least total.
use Rattle.std.specs.Prelude.{◌≡◌, ℕ, ◌+◌, ◌-◌, ◌<◌, ◌≤◌, Bool, ◌&&◌, ◌==◌, List, [], ◌∷◌, find, reverse, Some}
use Rattle.papergrid_tracks.specs.declared.demand.Demand.{Demand}
use Rattle.papergrid_tracks.specs.Problem.{Problem}
use Rattle.papergrid_tracks.specs.Ranges.{end_of}
use Rattle.papergrid_tracks.specs.TrackBoundaries.{AreLowest, net_minimum}

-- whether the cell's range ends at i, and the boundaries round it are no further apart than it asks
abbrev pub is_tight : (Demand → ℕ) → (ℕ → ℕ) → ℕ → Demand → Bool
is_tight asks boundary i d = end_of d == i && (boundary d.start + asks d == boundary i)

module _ (problem : Problem) (lowest : ℕ → ℕ) where
  -- the cell is the first that is tight at the boundary at its end, which is past the one before
  pub record IsFirstTight (d : Demand) : Type 0 where
    pub past : lowest (end_of d - 1) < lowest (end_of d)
    pub first : find (is_tight (net_minimum problem.line) lowest (end_of d)) problem.demands ≡ Some d

  -- such cells one after another back from the boundary at i, the last first. The lowest position does not move
  -- between the end of one and the start of the next, before the first, nor after the last
  abbrev pub IsPathBack : ℕ → List Demand → Type 0
  IsPathBack i [] = lowest i ≡ 0
  IsPathBack i (d ∷ earlier) =
      (end_of d ≤ i) × (lowest (end_of d) ≡ lowest i) × IsFirstTight d × IsPathBack d.start earlier

-- the cells of a critical path, by the starts of their ranges: a path back by the lowest positions
pub record IsCriticalPath (problem : Problem) (cells : List Demand) : Type 0 where
  pub lowest : ℕ → ℕ
  pub are_lowest : AreLowest (net_minimum problem.line) problem.count problem.demands lowest
  pub path : IsPathBack problem lowest problem.count (reverse cells)
