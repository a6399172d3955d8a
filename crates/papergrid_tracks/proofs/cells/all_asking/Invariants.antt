use Rattle.std.proofs.Common.{◌≡◌, take}
use Rattle.std.specs.Prelude.{map}
use Rattle.papergrid_tracks.specs.ForProofs.Settled.{line_at}
use Rattle.papergrid_tracks.specs.TrackBoundaries.{net_minimum}
use Rattle.papergrid_tracks.specs.ForProofs.Laid.{with_net_minimum}
use Rattle.papergrid_tracks.proofs.cells.all_asking.Given as goal

abbrev pub invariant-loop-demand : goal.invariant-loop-demand
invariant-loop-demand l = l.cells.items ≡ map (with_net_minimum (net_minimum (line_at l.lines))) (take l.demand-index l.demands)
