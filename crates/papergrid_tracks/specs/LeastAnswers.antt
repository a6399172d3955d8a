-- The cells that certify least sizes.
use Rattle.std.specs.Prelude.{◌≡◌, ℕ, ◌^◌, ◌<◌, List, All, map, None}
use Rattle.papergrid_values.specs.declared.position.Position.{Position}
use Rattle.papergrid_tracks.specs.declared.demand.Demand.{Demand}
use Rattle.papergrid_tracks.specs.Problem.{Problem, total_of}
use Rattle.papergrid_tracks.specs.Ranges.{IsInTable, first_out, position_of}
use Rattle.papergrid_tracks.specs.Fits.{IsCertificate, IsLeast}
use Rattle.papergrid_tracks.specs.CriticalPath.{IsCriticalPath}

-- the positions of the cells of the critical path, which certify any least sizes; and these are not too large
pub record AreCriticalPath (problem : Problem) (positions : List Position) : Type 0 where
  pub table : All (IsInTable problem.count) problem.demands
  pub none_out : first_out problem.count problem.demands ≡ None
  pub cells : List Demand
  pub exact : positions ≡ map position_of cells
  pub path : IsCriticalPath problem cells
  pub total : (sizes : List ℕ) → IsLeast problem sizes → total_of problem sizes < 2 ^ 64
  pub certificate : (sizes : List ℕ) → IsLeast problem sizes → IsCertificate problem sizes cells
