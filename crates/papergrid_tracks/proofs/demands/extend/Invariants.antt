use Rattle.std.proofs.Common.{◌≡◌, ◌+◌, ◌-◌, ℕ, get_or, length}
use Rattle.papergrid_tracks.specs.ForProofs.Demands.{no_demand}
use Rattle.papergrid_tracks.proofs.demands.extend.Given as goal

abbrev pub invariant-loop-single_span : goal.invariant-loop-single_span
invariant-loop-single_span l = (k : ℕ) → get_or l.single_span.items k no_demand ≡ get_or l.fn.single_span.items k no_demand

abbrev pub decreases-loop-single_span : goal.decreases-loop-single_span
decreases-loop-single_span l = l.i + 1 - length l.single_span.items
