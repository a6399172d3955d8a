use Rattle.std.proofs.Common.{◌+◌, ◌≤◌, ℕ, IsUtf8, length}
use Rattle.papergrid_text.specs.ForProofs.Simple.{ReadsQuietly}
use Rattle.papergrid_text.proofs.width.simple.simple_width.Given as goal

abbrev pub invariant-loop-rest : goal.invariant-loop-rest
invariant-loop-rest g l = record {
  text : IsUtf8 l.rest;
  reads : (n : ℕ) → ReadsQuietly l.rest n → ReadsQuietly l.text (l.width + n);
  room : l.width + length l.rest ≤ length l.text;
}

abbrev pub decreases-loop-rest : goal.decreases-loop-rest
decreases-loop-rest g l = length l.rest
