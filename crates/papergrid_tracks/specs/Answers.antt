-- What an answer for a direction says of the cells' demands.
use Rattle.std.specs.Prelude.{◌≡◌, ℕ, ◌^◌, ◌<◌, List, map, None}
use Rattle.papergrid_values.specs.declared.position.Position.{Position}
use Rattle.papergrid_tracks.specs.declared.demand.Demand.{Demand}
use Rattle.papergrid_tracks.specs.Problem.{Problem, total_of}
use Rattle.papergrid_tracks.specs.Ranges.{IsLaminar, SomeCross, first_out, position_of}
use Rattle.papergrid_tracks.specs.Fits.{Fits, IsCertificate}
use Rattle.papergrid_tracks.specs.Sizes.{sizes_of}
use Rattle.papergrid_tracks.specs.Certificates.{certificate_cells_of}

module _ (problem : Problem) where
  -- the positions of the cells of the certificate
  pub record AreCertifying (positions : List Position) : Type 0 where
    pub none_out : first_out problem.count problem.demands ≡ None
    pub total : total_of problem (sizes_of problem) < 2 ^ 64
    pub laminar : IsLaminar problem.demands
    pub exact : positions ≡ map position_of (certificate_cells_of problem)
    pub certificate : IsCertificate problem (sizes_of problem) (certificate_cells_of problem)

  -- there are sizes, and two longer ranges are neither nested nor disjoint
  pub record NoneCertify : Type 0 where
    pub none_out : first_out problem.count problem.demands ≡ None
    pub total : total_of problem (sizes_of problem) < 2 ^ 64
    pub not_laminar : SomeCross problem.demands

-- what a checker accepts: no cell overflows the table, the sizes fit, and the positions are those of cells that certify them
pub record IsAccepted (problem : Problem) (sizes : List ℕ) (positions : List Position) : Type 0 where
  pub none_out : first_out problem.count problem.demands ≡ None
  pub fits : Fits problem sizes
  pub cells : List Demand
  pub at_positions : map position_of cells ≡ positions
  pub certificate : IsCertificate problem sizes cells
