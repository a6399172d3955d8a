use Rattle.std.proofs.Common.{◌≡◌, ℕ, ◌+◌, ◌<◌, ◌≤◌, length, get_or}
use Rattle.papergrid_tracks.specs.ForProofs.Laid.{AreSteps}
use Rattle.papergrid_tracks.proofs.boundaries.lay.Given as goal

abbrev pub invariant-loop-i : goal.invariant-loop-i
invariant-loop-i l = record {
  same_length : length l.boundaries ≡ length l.fn.boundaries;
  before : (i : ℕ) → i ≤ l.fn.from → get_or l.boundaries i 0 ≡ get_or l.fn.boundaries i 0;
  laid : (i : ℕ) → l.fn.from ≤ i → i < l.i → get_or l.boundaries (i + 1) 0 ≡ get_or l.boundaries i 0 + get_or l.fn.base i 0;
  below : (boundary : ℕ → ℕ) → get_or l.fn.boundaries l.fn.from 0 ≤ boundary l.fn.from → AreSteps l.fn.base l.fn.from (length l.fn.base) boundary → get_or l.boundaries l.i 0 ≤ boundary l.i;
}
