use Rattle.std.proofs.Common.{◌≡◌, Ok}
use Rattle.papergrid_draw.specs.ForProofs.FilledFrames.{filled, filled_table}
use Rattle.papergrid_draw.specs.ForProofs.Pages.{row_start}
use Rattle.papergrid_draw.specs.ForProofs.Plain.{HasCommonRule}
use Rattle.papergrid_draw.specs.ForProofs.Sheets.{WritesLines, margined}
use Rattle.papergrid_draw.proofs.PrinterLemmas.{first_rows}
use Rattle.papergrid_draw.proofs.filled_frame.FilledFrame.draw_plain_rows.Given as goal

abbrev pub invariant-loop-row : goal.invariant-loop-row
invariant-loop-row g l = record {
  common : HasCommonRule (filled_table l.self) l.common;
  written : l.sheet.written ≡ row_start (filled g.S.Cells.lines g.S.Cells.color l.self) l.row;
  wrote : WritesLines g.D.Delivery.takes g.D.Delivery.breaks {A = Unit {0}} l.fn.writer l.writer l.fn.sheet.begun l.sheet.begun
      (margined (filled g.S.Cells.lines g.S.Cells.color l.self) 0
      (first_rows (filled g.S.Cells.lines g.S.Cells.color l.self) l.row)) (Ok tt);
}
