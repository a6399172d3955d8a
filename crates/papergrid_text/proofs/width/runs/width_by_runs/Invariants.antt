use Rattle.std.proofs.Common.{◌≡◌, ◌+◌, ◌*◌, ◌≤◌, IsUtf8, chars, false, length}
use Rattle.unicode_width.specs.Width.{str_width}
use Rattle.papergrid_text.proofs.width.runs.width_by_runs.Given as goal

abbrev pub invariant-loop-before : goal.invariant-loop-before
invariant-loop-before l = record {
  text : IsUtf8 l.rest;
  total : l.width + str_width false (chars l.rest) ≡ str_width false (chars l.text);
  room : l.width + 2 * length l.rest ≤ 2 * length l.text;
}

abbrev pub decreases-loop-before : goal.decreases-loop-before
decreases-loop-before l = length l.rest
