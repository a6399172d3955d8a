use Rattle.std.proofs.Common.{◌≡◌, ◌≤◌, ◌-◌, drop, length, reverse, take}
use Rattle.papergrid_draw.specs.Contents.{from_text}
use Rattle.papergrid_draw.proofs.block.end_of_text.Given as goal

abbrev pub invariant-loop-last : goal.invariant-loop-last
invariant-loop-last g l = record {
  from : l.start ≤ l.last;
  within : l.last ≤ length (g.T.Cell.lines l.cell);
  sought : from_text (reverse (take (l.last - l.start) (drop l.start (g.T.Cell.lines l.cell)))) ≡ from_text (reverse (drop l.start (g.T.Cell.lines l.cell)));
}

abbrev pub decreases-loop-last : goal.decreases-loop-last
decreases-loop-last g l = l.last
