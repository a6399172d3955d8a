-- The sizes and the path that are computed are those of which the definitions tell.
use Rattle.std.proofs.Common.{ℕ, refl, arith}
use Rattle.std.specs.Prelude.{All}
use Rattle.papergrid_tracks.specs.Crossing.{crossing_cells}
use Rattle.papergrid_tracks.specs.Ranges.{IsInTable}
use Rattle.papergrid_tracks.proofs.LeastLemmas.{furthest_right-is}
use Rattle.papergrid_tracks.proofs.PathBackLemmas.{critical_path-is}
use Rattle.papergrid_tracks.proofs.worked.crossing_worked.Goals as goal

table : (minimum : ℕ) → All (IsInTable 3) (crossing_cells minimum).demands
table minimum = grind arith

pub returns : goal.returns
returns c = record {
  by_shares = refl;
  least = (furthest_right-is (crossing_cells 4) (table 4) _).1 refl;
  certified = (critical_path-is (crossing_cells 4) (table 4) _).1 refl;
  larger_shares = refl;
  larger_least = (furthest_right-is (crossing_cells 10) (table 10) _).1 refl;
  larger_certified = (critical_path-is (crossing_cells 10) (table 10) _).1 refl;
}
