use Rattle.std.proofs.Common.{◌≡◌, ◌<◌, Ok, subst, arith, slice_index}
use Rattle.std.proofs.lemmas.Result.{err_from_is_err_and}
use Rattle.papergrid_draw.specs.ForProofs.Pages.{drawing_of}
use Rattle.papergrid_draw.specs.ForProofs.Sheets.{AtText, WritesLines, margined, first_text_lines}
use Rattle.papergrid_draw.proofs.SheetLemmas.{lines-none}
use Rattle.papergrid_draw.proofs.PrinterLemmas.{text_lines-cut, text_lines-next}
use Rattle.papergrid_draw.proofs.rows.draw_text_lines.Goals as goal

pub get_height-k-end-requires : goal.get_height-k-end-requires
get_height-k-end-requires g c = c.requires.1.row_in

pub loop-k-init : goal.loop-k-init
loop-k-init g c = λ texts at. record { comes = at; lines = lines-none g.D.Delivery.takes g.D.Delivery.breaks _ _ tt }

pub draw_text_line-requires : goal.draw_text_line-requires
draw_text_line-requires g c =
    let told = c.requires in
    let below : c.loop-k.k < slice_index c.args.frame.now.table.now.heights c.args.row = omega (arith, c.get_height-k-end.ensures) in
    (told.0, below, (c.loop-k.invariant told.0 told.1).comes)

pub returns-in_err-draw_text_line-clause-lines : goal.returns-in_err-draw_text_line-clause-lines
returns-in_err-draw_text_line-clause-lines g c =
    let p = err_from_is_err_and c.from_residual.result c.from_residual.ensures.1 in
    rw (p.1, p.2) (λ texts at.
    let d = drawing_of c.args.frame.now.table.now texts in
    let now = c.loop-k.invariant texts at in
    let below : c.loop-k.k < d.heights c.args.row = omega (arith, c.get_height-k-end.ensures) in
    text_lines-cut d g.D.Delivery.takes g.D.Delivery.breaks _ _ _ _ _ _ _ c.args.sheet.now.written c.loop-k.sheet.written c.args.row c.loop-k.k (d.heights c.args.row) tt _
    (omega (arith, at.written, now.comes.written)) below now.lines (c.in_err-draw_text_line.ensures.lines texts now.comes))

pub returns-in_err-draw_text_line-clause-kept : goal.returns-in_err-draw_text_line-clause-kept
returns-in_err-draw_text_line-clause-kept g c = rw (err_from_is_err_and c.from_residual.result c.from_residual.ensures.1).1 tt

pub loop-k-preserved : goal.loop-k-preserved
loop-k-preserved g c = λ texts at.
    let now = c.loop-k.invariant texts at in
    record {
      comes = c.in_ok-draw_text_line.ensures.kept texts now.comes;
      lines = text_lines-next (drawing_of c.args.frame.now.table.now texts) g.D.Delivery.takes g.D.Delivery.breaks _ _ _ _ _ _ c.args.sheet.now.written c.loop-k.sheet.written c.args.row c.loop-k.k tt (Ok tt)
          (omega (arith, at.written, now.comes.written)) now.lines (c.in_ok-draw_text_line.ensures.lines texts now.comes);
    }

pub returns-clause-lines : goal.returns-clause-lines
returns-clause-lines g c = λ texts at.
    let d = drawing_of c.args.frame.now.table.now texts in
    let last : c.loop-k.k ≡ d.heights c.args.row = omega (arith, c.get_height-k-end.ensures) in
    subst (λ k. WritesLines g.D.Delivery.takes g.D.Delivery.breaks {A = Unit {0}} c.args.writer.now c.loop-k.writer c.args.sheet.now.begun c.loop-k.sheet.begun
    (margined d c.args.sheet.now.written (first_text_lines d c.args.row k)) (Ok tt)) last (c.loop-k.invariant texts at).lines

pub returns-clause-kept : goal.returns-clause-kept
returns-clause-kept g c = λ texts at.
    let d = drawing_of c.args.frame.now.table.now texts in
    let last : c.loop-k.k ≡ d.heights c.args.row = omega (arith, c.get_height-k-end.ensures) in
    subst (λ k. AtText d c.args.row k c.loop-k.sheet c.loop-k.slots) last (c.loop-k.invariant texts at).comes
