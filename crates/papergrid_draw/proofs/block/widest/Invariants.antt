use Rattle.std.proofs.Common.{◌≡◌, ◌≤◌, length, take}
use Rattle.papergrid_draw.specs.Contents.{block_width}
use Rattle.papergrid_draw.proofs.block.widest.Given as goal

abbrev pub invariant-loop-line : goal.invariant-loop-line
invariant-loop-line g l = record {
  within : l.line ≤ length (g.T.Cell.lines l.cell);
  most : l.most ≡ block_width l.trims (take l.line (g.T.Cell.lines l.cell));
}
