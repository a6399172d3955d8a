use Rattle.std.proofs.Common.{◌≡◌, Ok, option_copied, replicate}
use Rattle.papergrid_draw.specs.Margins.{margin_line}
use Rattle.papergrid_draw.specs.ForProofs.Sheets.{WritesLines}
use Rattle.papergrid_draw.proofs.rows.draw_margin.Given as goal

abbrev pub invariant-loop-k : goal.invariant-loop-k
invariant-loop-k g l = record {
  lines : WritesLines g.D.Delivery.takes g.D.Delivery.breaks {A = Unit {0}} l.fn.writer l.writer l.fn.sheet.begun l.sheet.begun
      (replicate l.k (margin_line l.indent (option_copied l.color) l.offset l.width)) (Ok tt);
  written : l.sheet.written ≡ l.fn.sheet.written;
}
