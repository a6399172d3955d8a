use Rattle.std.proofs.Common.{◌≡◌, ◌∙◌, ◌++◌, sym, subst, arith}
use Rattle.std.proofs.lemmas.Result.{err_from_is_err_and, on_ok_weaker}
use Rattle.papergrid_draw.specs.Drawn.{rule_lines}
use Rattle.papergrid_draw.specs.ForProofs.FilledFrames.{filled}
use Rattle.papergrid_draw.specs.ForProofs.Pages.{row_start, text_start}
use Rattle.papergrid_draw.specs.ForProofs.Sheets.{WritesLines, margined, first_text_lines}
use Rattle.papergrid_draw.proofs.SheetLemmas.{told_texts}
use Rattle.papergrid_draw.proofs.PrinterLemmas.{length-rule_lines, margined-cut, margined-lines, row-after, text-after}
use Rattle.papergrid_draw.proofs.filled_frame.FilledFrame.draw_plain_row.Goals as goal

pub returns-in_err-draw_plain_rule-clause-lines : goal.returns-in_err-draw_plain_rule-clause-lines
returns-in_err-draw_plain_rule-clause-lines g c =
    let texts = told_texts g.S.Cells.lines g.S.Cells.color c.args.self.now.cells.now in
    let d = filled g.S.Cells.lines g.S.Cells.color c.args.self.now in
    let p = err_from_is_err_and c.from_residual.result c.from_residual.ensures.1 in
    rw (p.1, p.2)
    (margined-cut d g.D.Delivery.takes g.D.Delivery.breaks _ _ _ _ _ (row_start d c.args.row) (rule_lines d c.args.row) (first_text_lines d c.args.row (d.heights c.args.row)) _
    (c.in_err-draw_plain_rule.ensures.lines texts))

pub draw_low_row-requires-clause-start : goal.draw_low_row-requires-clause-start
draw_low_row-requires-clause-start g c =
    c.in_ok-draw_plain_rule.ensures.written (told_texts g.S.Cells.lines g.S.Cells.color c.args.self.now.cells.now) c.requires.row_in

pub returns-then-get_height-eq1-clause-lines : goal.returns-then-get_height-eq1-clause-lines
returns-then-get_height-eq1-clause-lines g c =
    let texts = told_texts g.S.Cells.lines g.S.Cells.color c.args.self.now.cells.now in
    let d = filled g.S.Cells.lines g.S.Cells.color c.args.self.now in
    let low : d.heights c.args.row ≡ 1 = sym c.get_height.ensures ∙ c.if-get_height-eq1.true in
    subst (λ n. WritesLines g.D.Delivery.takes g.D.Delivery.breaks c.args.writer.now c.draw_low_row.new.writer c.args.sheet.now.begun c.draw_low_row.new.sheet.begun
    (margined d (row_start d c.args.row) (rule_lines d c.args.row ++ first_text_lines d c.args.row n)) c.draw_low_row.result) (sym low)
    (margined-lines d g.D.Delivery.takes g.D.Delivery.breaks _ _ _ _ _ _ (row_start d c.args.row) (text_start d c.args.row) (rule_lines d c.args.row) (first_text_lines d c.args.row 1) tt _
    (omega (arith, length-rule_lines d c.args.row, text-after d c.args.row))
    (c.in_ok-draw_plain_rule.ensures.lines texts) c.draw_low_row.ensures.lines)

pub returns-then-get_height-eq1-clause-written : goal.returns-then-get_height-eq1-clause-written
returns-then-get_height-eq1-clause-written g c =
    let d = filled g.S.Cells.lines g.S.Cells.color c.args.self.now in
    let low : d.heights c.args.row ≡ 1 = sym c.get_height.ensures ∙ c.if-get_height-eq1.true in
    on_ok_weaker c.draw_low_row.result (λ written. omega (arith, written, low, row-after d c.args.row)) c.draw_low_row.ensures.written

pub draw_high_row-requires-clause-start : goal.draw_high_row-requires-clause-start
draw_high_row-requires-clause-start g c =
    c.in_ok-draw_plain_rule.ensures.written (told_texts g.S.Cells.lines g.S.Cells.color c.args.self.now.cells.now) c.requires.row_in

pub returns-clause-lines : goal.returns-clause-lines
returns-clause-lines g c =
    let texts = told_texts g.S.Cells.lines g.S.Cells.color c.args.self.now.cells.now in
    let d = filled g.S.Cells.lines g.S.Cells.color c.args.self.now in
    margined-lines d g.D.Delivery.takes g.D.Delivery.breaks _ _ _ _ _ _ (row_start d c.args.row) (text_start d c.args.row) (rule_lines d c.args.row)
    (first_text_lines d c.args.row (d.heights c.args.row)) tt _
    (omega (arith, length-rule_lines d c.args.row, text-after d c.args.row))
    (c.in_ok-draw_plain_rule.ensures.lines texts) c.draw_high_row.ensures.lines

pub returns-clause-written : goal.returns-clause-written
returns-clause-written g c =
    let d = filled g.S.Cells.lines g.S.Cells.color c.args.self.now in
    on_ok_weaker c.draw_high_row.result (λ written. written ∙ sym (row-after d c.args.row)) c.draw_high_row.ensures.written
