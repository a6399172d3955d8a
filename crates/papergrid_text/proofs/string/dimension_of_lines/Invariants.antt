use Rattle.std.proofs.Common.{◌≡◌, ◌+◌, length, max}
use Rattle.std.specs.Prelude.{IsUtf8, IfSome}
use Rattle.papergrid_text.specs.LinesLeft.{lines_of_rest}
use Rattle.papergrid_text.specs.Text.{split_lines, greatest_width}
use Rattle.papergrid_text.proofs.string.dimension_of_lines.Given as goal

abbrev pub invariant-loop-rest : goal.invariant-loop-rest
invariant-loop-rest l = record {
  text : IfSome l.rest (λ rest. IsUtf8 rest.now);
  counted : l.count + length (lines_of_rest l.rest) ≡ length (split_lines l.text);
  widest : max l.width (greatest_width (lines_of_rest l.rest)) ≡ greatest_width (split_lines l.text);
}

abbrev pub decreases-loop-rest : goal.decreases-loop-rest
decreases-loop-rest l = length (lines_of_rest l.rest)
