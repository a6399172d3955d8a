use Rattle.std.proofs.Common.{◌≡◌, ◌<◌, ℕ, get_or, length}
use Rattle.papergrid_tracks.specs.ForProofs.Demands.{no_demand}
use Rattle.papergrid_tracks.proofs.settled.write_base.Given as goal

abbrev pub invariant-loop-i : goal.invariant-loop-i
invariant-loop-i l = (length l.sizes ≡ length l.fn.sizes) × ((k : ℕ) → k < l.i → get_or l.sizes k 0 ≡ (get_or l.single_span k no_demand).minimum)
