use Rattle.std.proofs.Common.{subst}
use Rattle.std.proofs.lemmas.Result.{on_ok_weaker}
use Rattle.papergrid_draw.specs.ForProofs.FilledFrames.{filled}
use Rattle.papergrid_draw.specs.ForProofs.Sheets.{WritesLines, margined, first_text_lines}
use Rattle.papergrid_draw.proofs.SheetLemmas.{told_texts}
use Rattle.papergrid_draw.proofs.SheetLemmas.{lines-refused}
use Rattle.papergrid_draw.proofs.PlainLemmas.{text-comes}
use Rattle.papergrid_draw.proofs.filled_frame.FilledFrame.draw_high_row.Goals as goal

pub returns-in_err-slots-clause-lines : goal.returns-in_err-slots-clause-lines
returns-in_err-slots-clause-lines g c = lines-refused g.D.Delivery.takes g.D.Delivery.breaks _ _ _ _ _ _ c.from_residual.ensures.1

pub draw_text_lines-requires : goal.draw_text_lines-requires
draw_text_lines-requires g c = (
  told_texts g.S.Cells.lines g.S.Cells.color c.args.self.now.cells.now,
  text-comes (filled g.S.Cells.lines g.S.Cells.color c.args.self.now) c.args.row c.args.sheet.now c.in_ok-slots.slots.items c.as_mut_slice.result.now
      c.requires.row_in c.requires.start c.in_ok-slots.ensures c.as_mut_slice.ensures.value,
)

pub returns-clause-lines : goal.returns-clause-lines
returns-clause-lines g c =
    let d = filled g.S.Cells.lines g.S.Cells.color c.args.self.now in
    let at = text-comes d c.args.row c.args.sheet.now c.in_ok-slots.slots.items c.as_mut_slice.result.now
    c.requires.row_in c.requires.start c.in_ok-slots.ensures c.as_mut_slice.ensures.value in
    subst (λ y. WritesLines g.D.Delivery.takes g.D.Delivery.breaks c.args.writer.now c.draw_text_lines.new.writer c.args.sheet.now.begun c.draw_text_lines.new.sheet.begun
    (margined d y (first_text_lines d c.args.row (d.heights c.args.row))) c.draw_text_lines.result) c.requires.start
    (c.draw_text_lines.ensures.lines (told_texts g.S.Cells.lines g.S.Cells.color c.args.self.now.cells.now) at)

pub returns-clause-written : goal.returns-clause-written
returns-clause-written g c =
    let at = text-comes (filled g.S.Cells.lines g.S.Cells.color c.args.self.now) c.args.row c.args.sheet.now c.in_ok-slots.slots.items c.as_mut_slice.result.now
    c.requires.row_in c.requires.start c.in_ok-slots.ensures c.as_mut_slice.ensures.value in
    on_ok_weaker c.draw_text_lines.result (λ kept. (kept (told_texts g.S.Cells.lines g.S.Cells.color c.args.self.now.cells.now) at).written) c.draw_text_lines.ensures.kept
