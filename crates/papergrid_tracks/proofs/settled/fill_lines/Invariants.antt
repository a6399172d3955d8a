use Rattle.std.proofs.Common.{◌≡◌, ◌<◌, ℕ, length, false}
use Rattle.std.specs.Prelude.{slice_index_or}
use Rattle.papergrid_tracks.proofs.settled.fill_lines.Given as goal

abbrev pub invariant-loop-i : goal.invariant-loop-i
invariant-loop-i g l = (length l.lines ≡ length l.fn.lines) × ((k : ℕ) → k < l.i → slice_index_or l.lines k false ≡ g.A.Axis.line l.axis k)
