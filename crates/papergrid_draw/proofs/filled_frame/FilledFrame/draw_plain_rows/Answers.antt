use Rattle.std.proofs.Common.{◌≡◌, ◌<◌, Ok, length, ap, refl, subst, sym, arith}
use Rattle.std.proofs.lemmas.Option.{none-some}
use Rattle.std.proofs.lemmas.Result.{err_from_is_err_and}
use Rattle.papergrid_draw.specs.Drawn.{rule_lines}
use Rattle.papergrid_draw.specs.ForProofs.FilledFrames.{filled, filled_table}
use Rattle.papergrid_draw.specs.ForProofs.Pages.{row_start}
use Rattle.papergrid_draw.specs.ForProofs.Sheets.{WritesLines, margined}
use Rattle.papergrid_draw.proofs.SheetLemmas.{told_texts}
use Rattle.papergrid_draw.proofs.SheetLemmas.{lines-none}
use Rattle.papergrid_draw.proofs.PrinterLemmas.{drawn-all, drawn-cut, first_rows-next}
use Rattle.papergrid_draw.proofs.filled_frame.FilledFrame.draw_plain_rows.Goals as goal

pub loop-row-init : goal.loop-row-init
loop-row-init g c = record {
  common = λ texts bytes row some. absurd (none-some bytes some);
  written = c.requires.start;
  wrote = lines-none g.D.Delivery.takes g.D.Delivery.breaks _ _ tt;
}

pub returns-in_err-draw_plain_row : goal.returns-in_err-draw_plain_row
returns-in_err-draw_plain_row g c =
    let d = filled g.S.Cells.lines g.S.Cells.color c.args.self.now in
    let p = err_from_is_err_and c.from_residual.result c.from_residual.ensures.1 in
    let below : c.loop-row.row < d.shape.0 = omega (arith, ap (λ s. s.0) c.args.self.now.frame.now.read.shape_is) in
    rw (p.1, p.2)
    (drawn-cut d g.D.Delivery.takes g.D.Delivery.breaks _ _ _ _ _ _ _ (row_start d c.loop-row.row) c.loop-row.row tt _ below refl c.loop-row.invariant.wrote c.in_err-draw_plain_row.ensures.lines)

pub loop-row-preserved : goal.loop-row-preserved
loop-row-preserved g c =
    let d = filled g.S.Cells.lines g.S.Cells.color c.args.self.now in
    record {
      common = c.in_ok-draw_plain_row.ensures.common;
      written = c.in_ok-draw_plain_row.ensures.written;
      wrote = first_rows-next d g.D.Delivery.takes g.D.Delivery.breaks _ _ _ _ _ _ (row_start d c.loop-row.row) c.loop-row.row tt (Ok tt) refl c.loop-row.invariant.wrote c.in_ok-draw_plain_row.ensures.lines;
    }

pub draw_plain_rule-requires-clause-start : goal.draw_plain_rule-requires-clause-start
draw_plain_rule-requires-clause-start g c = λ texts.
    let d = filled g.S.Cells.lines g.S.Cells.color c.args.self.now in
    let last : c.loop-row.row ≡ c.args.self.now.frame.now.shape.0 = omega arith in
    subst (λ r. c.loop-row.sheet.written ≡ row_start d r) last c.loop-row.invariant.written

pub returns : goal.returns
returns g c =
    let texts = told_texts g.S.Cells.lines g.S.Cells.color c.args.self.now.cells.now in
    let d = filled g.S.Cells.lines g.S.Cells.color c.args.self.now in
    let last : c.loop-row.row ≡ c.args.self.now.frame.now.shape.0 = omega arith in
    let end : c.loop-row.row ≡ length (filled_table c.args.self.now).heights = omega (arith, ap (λ s. s.0) c.args.self.now.frame.now.read.shape_is) in
    drawn-all d g.D.Delivery.takes g.D.Delivery.breaks _ _ _ _ _ _ (row_start d c.loop-row.row) c.loop-row.row tt _ end refl c.loop-row.invariant.wrote
    (subst (λ r. WritesLines g.D.Delivery.takes g.D.Delivery.breaks c.loop-row.writer c.draw_plain_rule.new.writer c.loop-row.sheet.begun c.draw_plain_rule.new.sheet.begun
    (margined d (row_start d r) (rule_lines d r)) c.draw_plain_rule.result) (sym last) (c.draw_plain_rule.ensures.lines texts))
