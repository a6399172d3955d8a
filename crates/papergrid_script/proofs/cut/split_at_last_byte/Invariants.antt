use Rattle.std.proofs.Common.{◌≢◌, ◌<◌, ◌≤◌, ℕ, List, get_or, length}
use Rattle.papergrid_script.proofs.cut.split_at_last_byte.Given as goal

-- no such byte stands from there on
pub record Passed (text : List ℕ) (byte at : ℕ) : Type 0 where
  pub within : at ≤ length text
  pub none : (k : ℕ) → at ≤ k → k < length text → get_or text k 0 ≢ byte

abbrev pub invariant-loop-at : goal.invariant-loop-at
invariant-loop-at l = Passed l.fn.text l.byte l.at

abbrev pub decreases-loop-at : goal.decreases-loop-at
decreases-loop-at l = l.at
