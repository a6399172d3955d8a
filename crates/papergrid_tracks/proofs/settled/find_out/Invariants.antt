use Rattle.std.proofs.Common.{◌≡◌, drop}
use Rattle.papergrid_tracks.specs.Ranges.{first_out}
use Rattle.papergrid_tracks.proofs.settled.find_out.Given as goal

abbrev pub invariant-loop-demand : goal.invariant-loop-demand
invariant-loop-demand l = first_out l.count l.demands ≡ first_out l.count (drop l.demand-index l.demands)
