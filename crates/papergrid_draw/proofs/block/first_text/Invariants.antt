use Rattle.std.proofs.Common.{◌≡◌, ◌≤◌, ◌-◌, drop, length}
use Rattle.papergrid_draw.specs.Contents.{from_text}
use Rattle.papergrid_draw.proofs.block.first_text.Given as goal

abbrev pub invariant-loop-start : goal.invariant-loop-start
invariant-loop-start g l = record {
  within : l.start ≤ length (g.T.Cell.lines l.cell);
  rest : from_text (drop l.start (g.T.Cell.lines l.cell)) ≡ from_text (g.T.Cell.lines l.cell);
}

abbrev pub decreases-loop-start : goal.decreases-loop-start
decreases-loop-start g l = length (g.T.Cell.lines l.cell) - l.start
