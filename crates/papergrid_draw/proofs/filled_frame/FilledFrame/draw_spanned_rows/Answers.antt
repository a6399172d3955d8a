use Rattle.std.proofs.Common.{◌≡◌, ◌∙◌, ◌+◌, ◌<◌, Ok, drop, length, ap, subst, sym, arith}
use Rattle.std.proofs.lemmas.Result.{err_from_is_err_and}
use Rattle.papergrid_draw.specs.Drawn.{rule_lines}
use Rattle.papergrid_draw.specs.ForProofs.FilledFrames.{filled}
use Rattle.papergrid_draw.specs.ForProofs.Sheets.{AtRow, WritesLines, margined}
use Rattle.papergrid_draw.proofs.SheetLemmas.{told_texts}
use Rattle.papergrid_draw.proofs.SheetLemmas.{lines-none, lines-refused}
use Rattle.papergrid_draw.proofs.PrinterLemmas.{drawn-all, drawn-cut, first_rows-next, row-first, rule-last, whole-back}
use Rattle.papergrid_draw.proofs.filled_frame.FilledFrame.draw_spanned_rows.Goals as goal

pub returns-in_err-slots : goal.returns-in_err-slots
returns-in_err-slots g c = lines-refused g.D.Delivery.takes g.D.Delivery.breaks _ _ _ _ _ _ c.from_residual.ensures.1

pub loop-row-init : goal.loop-row-init
loop-row-init g c = record {
  comes = row-first (filled g.S.Cells.lines g.S.Cells.color c.args.self.now) c.args.sheet.now c.in_ok-slots.slots.items
      c.requires (c.in_ok-slots.ensures ∙ ap (λ s. s.1) c.args.self.now.frame.now.read.shape_is);
  lines = lines-none g.D.Delivery.takes g.D.Delivery.breaks _ _ tt;
}

pub draw_row-requires : goal.draw_row-requires
draw_row-requires g c = record {
  row_in = subst (λ n. c.loop-row.row < n) (ap (λ s. s.0) c.args.self.now.frame.now.read.shape_is) c.loop-row-test.true;
  comes = subst (AtRow (filled g.S.Cells.lines g.S.Cells.color c.args.self.now) c.loop-row.row c.loop-row.sheet)
      (sym c.as_mut_slice.ensures.value) c.loop-row.invariant.comes;
}

pub returns-in_err-draw_row : goal.returns-in_err-draw_row
returns-in_err-draw_row g c =
    let d = filled g.S.Cells.lines g.S.Cells.color c.args.self.now in
    let p = err_from_is_err_and c.from_residual-in_err-draw_row.result c.from_residual-in_err-draw_row.ensures.1 in
    let below : c.loop-row.row < d.shape.0 = omega (arith, ap (λ s. s.0) c.args.self.now.frame.now.read.shape_is) in
    rw (p.1, p.2)
    (drawn-cut d g.D.Delivery.takes g.D.Delivery.breaks _ _ _ _ _ _ _ c.loop-row.sheet.written c.loop-row.row tt _ below c.loop-row.invariant.comes.written c.loop-row.invariant.lines c.in_err-draw_row.ensures.lines)

pub loop-row-preserved : goal.loop-row-preserved
loop-row-preserved g c =
    let d = filled g.S.Cells.lines g.S.Cells.color c.args.self.now in
    let same : c.loop-row.slots.len ≡ length c.draw_row.new.slots =
    omega (arith, c.loop-row.slots.ok.0, c.draw_row.auto.slots, ap (λ s. length s) c.as_mut_slice.ensures.value) in
    record {
      comes = subst (λ slots. AtRow d (c.loop-row.row + 1) c.draw_row.new.sheet slots)
          (sym (whole-back c.loop-row.slots.len c.draw_row.new.slots (drop (length c.draw_row.new.slots) c.loop-row.slots.items) same)) c.in_ok-draw_row.ensures.kept;
      lines = first_rows-next d g.D.Delivery.takes g.D.Delivery.breaks _ _ _ _ _ _ c.loop-row.sheet.written c.loop-row.row tt (Ok tt) c.loop-row.invariant.comes.written c.loop-row.invariant.lines c.in_ok-draw_row.ensures.lines;
    }

pub draw_rule-requires : goal.draw_rule-requires
draw_rule-requires g c =
    let texts = told_texts g.S.Cells.lines g.S.Cells.color c.args.self.now.cells.now in
    let d = filled g.S.Cells.lines g.S.Cells.color c.args.self.now in
    let last : c.loop-row.row ≡ c.args.self.now.frame.now.shape.0 = omega arith in
    let end : c.loop-row.row ≡ d.shape.0 = omega (arith, ap (λ s. s.0) c.args.self.now.frame.now.read.shape_is) in (
      texts,
      rule-last d c.loop-row.row c.args.self.now.frame.now.shape.0 c.loop-row.sheet c.loop-row.slots.items c.as_mut_slice-2.result.now
          c.loop-row.invariant.comes end last (sym c.as_mut_slice-2.ensures.value),
    )

pub returns : goal.returns
returns g c =
    let texts = told_texts g.S.Cells.lines g.S.Cells.color c.args.self.now.cells.now in
    let d = filled g.S.Cells.lines g.S.Cells.color c.args.self.now in
    let last : c.loop-row.row ≡ c.args.self.now.frame.now.shape.0 = omega arith in
    let end : c.loop-row.row ≡ d.shape.0 = omega (arith, ap (λ s. s.0) c.args.self.now.frame.now.read.shape_is) in
    let at = rule-last d c.loop-row.row c.args.self.now.frame.now.shape.0 c.loop-row.sheet c.loop-row.slots.items c.as_mut_slice-2.result.now
    c.loop-row.invariant.comes end last (sym c.as_mut_slice-2.ensures.value) in
    drawn-all d g.D.Delivery.takes g.D.Delivery.breaks _ _ _ _ _ _ c.loop-row.sheet.written c.loop-row.row tt _ end c.loop-row.invariant.comes.written c.loop-row.invariant.lines
    (subst (λ r. WritesLines g.D.Delivery.takes g.D.Delivery.breaks c.loop-row.writer
    c.draw_rule.new.writer c.loop-row.sheet.begun c.draw_rule.new.sheet.begun
    (margined d c.loop-row.sheet.written (rule_lines d r)) c.draw_rule.result) (sym last) (c.draw_rule.ensures.lines texts at))
