use Rattle.std.proofs.Common.{arith}
use Rattle.std.proofs.lemmas.Result.{err_from_is_err_and, on_ok_weaker}
use Rattle.papergrid_draw.specs.Drawn.{rule_lines}
use Rattle.papergrid_draw.specs.ForProofs.FilledFrames.{filled}
use Rattle.papergrid_draw.specs.ForProofs.Sheets.{first_text_lines}
use Rattle.papergrid_draw.proofs.SheetLemmas.{told_texts}
use Rattle.papergrid_draw.proofs.SheetLemmas.{lines-refused}
use Rattle.papergrid_draw.proofs.PrinterLemmas.{length-rule_lines, margined-cut, margined-lines, row-next, rule-comes, text-after}
use Rattle.papergrid_draw.proofs.filled_frame.FilledFrame.draw_row.Goals as goal

pub returns-in_err-set_row-clause-lines : goal.returns-in_err-set_row-clause-lines
returns-in_err-set_row-clause-lines g c = lines-refused g.D.Delivery.takes g.D.Delivery.breaks _ _ _ _ _ _ c.from_residual.ensures.1

pub draw_rule-requires : goal.draw_rule-requires
draw_rule-requires g c =
    let texts = told_texts g.S.Cells.lines g.S.Cells.color c.args.self.now.cells.now in
    (texts, rule-comes (filled g.S.Cells.lines g.S.Cells.color c.args.self.now) c.args.row c.args.sheet.now c.args.slots.now c.set_row.new.slots c.requires.comes c.requires.row_in c.in_ok-set_row.ensures)

pub returns-in_err-draw_rule-clause-lines : goal.returns-in_err-draw_rule-clause-lines
returns-in_err-draw_rule-clause-lines g c =
    let texts = told_texts g.S.Cells.lines g.S.Cells.color c.args.self.now.cells.now in
    let d = filled g.S.Cells.lines g.S.Cells.color c.args.self.now in
    let at = rule-comes d c.args.row c.args.sheet.now c.args.slots.now c.set_row.new.slots c.requires.comes c.requires.row_in c.in_ok-set_row.ensures in
    let p = err_from_is_err_and c.from_residual-in_err-draw_rule.result c.from_residual-in_err-draw_rule.ensures.1 in
    rw (p.1, p.2)
    (margined-cut d g.D.Delivery.takes g.D.Delivery.breaks _ _ _ _ _ c.args.sheet.now.written (rule_lines d c.args.row) (first_text_lines d c.args.row (d.heights c.args.row)) _
    (c.in_err-draw_rule.ensures.lines texts at))

pub draw_text_lines-requires : goal.draw_text_lines-requires
draw_text_lines-requires g c =
    let texts = told_texts g.S.Cells.lines g.S.Cells.color c.args.self.now.cells.now in
    let at = rule-comes (filled g.S.Cells.lines g.S.Cells.color c.args.self.now) c.args.row c.args.sheet.now c.args.slots.now c.set_row.new.slots c.requires.comes c.requires.row_in c.in_ok-set_row.ensures in
    (texts, c.in_ok-draw_rule.ensures.kept texts at c.requires.row_in)

pub returns-clause-lines : goal.returns-clause-lines
returns-clause-lines g c =
    let texts = told_texts g.S.Cells.lines g.S.Cells.color c.args.self.now.cells.now in
    let d = filled g.S.Cells.lines g.S.Cells.color c.args.self.now in
    let at = rule-comes d c.args.row c.args.sheet.now c.args.slots.now c.set_row.new.slots c.requires.comes c.requires.row_in c.in_ok-set_row.ensures in
    let text = c.in_ok-draw_rule.ensures.kept texts at c.requires.row_in in
    margined-lines d g.D.Delivery.takes g.D.Delivery.breaks _ _ _ _ _ _ c.args.sheet.now.written c.draw_rule.new.sheet.written (rule_lines d c.args.row) (first_text_lines d c.args.row (d.heights c.args.row)) tt _
    (omega (arith, text.written, at.written, length-rule_lines d c.args.row, text-after d c.args.row))
    (c.in_ok-draw_rule.ensures.lines texts at)
    (c.draw_text_lines.ensures.lines texts text)

pub returns-clause-kept : goal.returns-clause-kept
returns-clause-kept g c =
    let texts = told_texts g.S.Cells.lines g.S.Cells.color c.args.self.now.cells.now in
    let at = rule-comes (filled g.S.Cells.lines g.S.Cells.color c.args.self.now) c.args.row c.args.sheet.now c.args.slots.now c.set_row.new.slots c.requires.comes c.requires.row_in c.in_ok-set_row.ensures in
    let text = c.in_ok-draw_rule.ensures.kept texts at c.requires.row_in in
    on_ok_weaker c.draw_text_lines.result (λ kept. row-next (filled g.S.Cells.lines g.S.Cells.color c.args.self.now) c.args.row c.draw_text_lines.new.sheet c.draw_text_lines.new.slots (kept texts text)) c.draw_text_lines.ensures.kept
