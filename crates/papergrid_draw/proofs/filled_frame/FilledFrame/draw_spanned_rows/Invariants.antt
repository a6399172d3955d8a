use Rattle.std.proofs.Common.{Ok}
use Rattle.papergrid_draw.specs.ForProofs.FilledFrames.{filled}
use Rattle.papergrid_draw.specs.ForProofs.Sheets.{AtRow, WritesLines, margined}
use Rattle.papergrid_draw.proofs.PrinterLemmas.{first_rows}
use Rattle.papergrid_draw.proofs.filled_frame.FilledFrame.draw_spanned_rows.Given as goal

abbrev pub invariant-loop-row : goal.invariant-loop-row
invariant-loop-row g l = record {
  comes : AtRow (filled g.S.Cells.lines g.S.Cells.color l.self) l.row l.sheet l.slots.items;
  lines : WritesLines g.D.Delivery.takes g.D.Delivery.breaks {A = Unit {0}} l.fn.writer l.writer l.fn.sheet.begun l.sheet.begun
      (margined (filled g.S.Cells.lines g.S.Cells.color l.self) 0
      (first_rows (filled g.S.Cells.lines g.S.Cells.color l.self) l.row)) (Ok tt);
}
