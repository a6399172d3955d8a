use Rattle.std.proofs.Common.{Ok}
use Rattle.papergrid_draw.specs.ForProofs.Pages.{Texts, drawing_of}
use Rattle.papergrid_draw.specs.ForProofs.Sheets.{AtText, WritesLines, margined, first_text_lines}
use Rattle.papergrid_draw.proofs.rows.draw_text_lines.Given as goal

abbrev pub invariant-loop-k : goal.invariant-loop-k
invariant-loop-k g l = (texts : Texts) → let d = drawing_of l.frame.table.now texts in AtText d l.row 0 l.fn.sheet l.fn.slots → record {
  comes : AtText d l.row l.k l.sheet l.slots;
  lines : WritesLines g.D.Delivery.takes g.D.Delivery.breaks {A = Unit {0}} l.fn.writer l.writer l.fn.sheet.begun l.sheet.begun
      (margined d l.fn.sheet.written (first_text_lines d l.row l.k)) (Ok tt);
}
