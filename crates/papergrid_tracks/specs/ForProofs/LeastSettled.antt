-- What is known of the lowest positions of the boundaries once the sizes are least.
use Rattle.std.specs.Prelude.{◌≡◌, ℕ, ◌+◌, ◌^◌, ◌<◌, ◌≤◌, Bool, List, None, Option, Some, Vec, length, slice_index, All}
use Rattle.std.specs.declared.alloc.Global.{Global}
use Rattle.papergrid_values.specs.declared.position.Position.{Position}
use Rattle.papergrid_tracks.specs.ForProofs.Demands.{StandInOrder}
use Rattle.papergrid_tracks.specs.ForProofs.Settled.{line_at}
use Rattle.papergrid_tracks.specs.Problem.{Problem, total_of}
use Rattle.papergrid_tracks.specs.Ranges.{IsInTable, first_out}
use Rattle.papergrid_tracks.specs.TrackBoundaries.{AreLowest, net_minimum}
use Rattle.papergrid_tracks.specs.Fits.{IsLeast}
use Rattle.papergrid_tracks.specs.LeastAnswers.{AreCriticalPath}
use Rattle.papergrid_tracks.specs.Sizings.{Certifies}
use Rattle.papergrid_tracks.specs.declared.sizing.Sizing.{Sizing}
use Rattle.papergrid_tracks.specs.declared.sizing.Sizing.TheVariants.{ByShares, Least}

-- the lines and the lowest positions of the boundaries of a problem whose least total fits
pub record AreLowestPositions (problem : Problem) (lines : List Bool) (boundaries : List ℕ) : Type 0 where
  pub none_out : first_out problem.count problem.demands ≡ None
  pub table : All (IsInTable problem.count) problem.demands
  pub total : (sizes : List ℕ) → IsLeast problem sizes → total_of problem sizes < 2 ^ 64
  pub lined : length lines ≡ problem.count + 1
  pub drawn : (i : ℕ) → i ≤ problem.count → line_at lines i ≡ problem.line i
  pub many : length boundaries ≡ problem.count + 1
  pub lowest : AreLowest (net_minimum problem.line) problem.count problem.demands (slice_index boundaries)

-- the positions of cells, of which there always are some, and which certify the least sizes where the demands stand in order
abbrev pub IsCriticalPathInOrder : {Z : Type 0} → Problem → Option (Vec Position Z) → Type 0
IsCriticalPathInOrder problem None = ⊥
IsCriticalPathInOrder problem (Some positions) = StandInOrder problem.demands → AreCriticalPath problem positions.items

-- what certifies the sizes; of least ones it is told where the demands stand in order
abbrev pub CertifiesInOrder : Sizing → Problem → Option (Vec Position Global) → Type 0
CertifiesInOrder ByShares problem certificate = Certifies ByShares problem certificate
CertifiesInOrder Least problem certificate = IsCriticalPathInOrder problem certificate
