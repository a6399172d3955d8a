use Rattle.std.proofs.Common.{◌∙◌, ◌<◌, ◌+◌, ap, arith}
use Rattle.std.proofs.lemmas.Result.{on_ok_weaker}
use Rattle.papergrid_layout.specs.Places.{total_along}
use Rattle.papergrid_layout.specs.Tables.{view_of}
use Rattle.papergrid_values.specs.declared.direction.Direction.TheVariants.{Rows}
use Rattle.papergrid_draw.specs.Drawn.{TextLine, text_line}
use Rattle.papergrid_draw.specs.ForProofs.Pages.{drawing_of, text_start}
use Rattle.papergrid_draw.proofs.SheetLemmas.{lines-refused}
use Rattle.papergrid_draw.proofs.PrinterLemmas.{one-margined, text-next, text-within}
use Rattle.papergrid_draw.proofs.rows.draw_text_line.Goals as goal

pub returns-in_err-begin_beside-clause-lines : goal.returns-in_err-begin_beside-clause-lines
returns-in_err-begin_beside-clause-lines g c = λ texts at. lines-refused g.D.Delivery.takes g.D.Delivery.breaks _ _ _ _ _ _ c.from_residual.ensures.1

pub returns-in_err-push_text_line-clause-lines : goal.returns-in_err-push_text_line-clause-lines
returns-in_err-push_text_line-clause-lines g c = λ texts at. lines-refused g.D.Delivery.takes g.D.Delivery.breaks _ _ _ _ _ _ c.from_residual-in_err-push_text_line.ensures.1

pub end_beside-requires : goal.end_beside-requires
end_beside-requires g c =
    let told = c.requires in
    let at = told.2 in
    let within : text_start (drawing_of c.args.frame.now.table.now told.0) c.args.row + c.args.k < total_along (view_of c.args.frame.now.table.now) Rows = text-within (drawing_of c.args.frame.now.table.now told.0) c.args.row c.args.k at.row_in told.1 in
    omega (arith, within, c.args.frame.now.read.fit, at.written, c.in_ok-begin_beside.ensures.written)

pub returns-clause-lines : goal.returns-clause-lines
returns-clause-lines g c = λ texts at.
    let d = drawing_of c.args.frame.now.table.now texts in
    one-margined d g.D.Delivery.takes g.D.Delivery.breaks _ _ _ _ c.args.sheet.now.written _ (TextLine (text_line d c.args.row c.args.k)) _ _ _
    c.in_ok-begin_beside.ensures.written
    (c.in_ok-begin_beside.ensures.line texts)
    (c.in_ok-push_text_line.ensures texts at.kept).0
    (c.end_beside.ensures.bytes texts)
    c.end_beside.ensures.begun

pub returns-clause-kept : goal.returns-clause-kept
returns-clause-kept g c =
    on_ok_weaker c.end_beside.result
    (λ more texts at. text-next (drawing_of c.args.frame.now.table.now texts) c.args.row c.args.k c.args.sheet.now c.end_beside.new.sheet c.args.slots.now c.push_text_line.new.slots at
    (more ∙ ap (λ n. n + 1) c.in_ok-begin_beside.ensures.written) (c.in_ok-push_text_line.ensures texts at.kept).1)
    c.end_beside.ensures.written
