use Rattle.std.proofs.Common.{◌∷◌, [], ◌<◌, ◌+◌, subst, arith}
use Rattle.papergrid_layout.specs.Places.{total_along}
use Rattle.papergrid_layout.specs.Tables.{view_of}
use Rattle.papergrid_values.specs.declared.direction.Direction.TheVariants.{Rows}
use Rattle.papergrid_draw.specs.Drawn.{TextLine, text_line}
use Rattle.papergrid_draw.specs.ForProofs.FilledFrames.{filled, filled_table}
use Rattle.papergrid_draw.specs.ForProofs.Pages.{text_start}
use Rattle.papergrid_draw.specs.ForProofs.Sheets.{WritesLines, margined}
use Rattle.papergrid_draw.proofs.SheetLemmas.{told_texts}
use Rattle.papergrid_draw.proofs.SheetLemmas.{lines-refused}
use Rattle.papergrid_draw.proofs.PrinterLemmas.{one-margined, text-within}
use Rattle.papergrid_draw.proofs.filled_frame.FilledFrame.draw_low_row.Goals as goal

pub returns-in_err-begin_beside-clause-lines : goal.returns-in_err-begin_beside-clause-lines
returns-in_err-begin_beside-clause-lines g c = lines-refused g.D.Delivery.takes g.D.Delivery.breaks _ _ _ _ _ _ c.from_residual.ensures.1

pub returns-in_err-push_plain_text_line-clause-lines : goal.returns-in_err-push_plain_text_line-clause-lines
returns-in_err-push_plain_text_line-clause-lines g c = lines-refused g.D.Delivery.takes g.D.Delivery.breaks _ _ _ _ _ _ c.from_residual-in_err-push_plain_text_line.ensures.1

pub end_beside-requires : goal.end_beside-requires
end_beside-requires g c =
    let d = filled g.S.Cells.lines g.S.Cells.color c.args.self.now in
    let some : 0 < d.heights c.args.row = omega (arith, c.requires.low) in
    let within : text_start d c.args.row + 0 < total_along (view_of (filled_table c.args.self.now)) Rows = text-within d c.args.row 0 c.requires.row_in some in
    omega (arith, within, c.args.self.now.frame.now.read.fit, c.requires.start, c.in_ok-begin_beside.ensures.written)

pub returns-clause-lines : goal.returns-clause-lines
returns-clause-lines g c =
    let texts = told_texts g.S.Cells.lines g.S.Cells.color c.args.self.now.cells.now in
    let d = filled g.S.Cells.lines g.S.Cells.color c.args.self.now in
    subst (λ y. WritesLines g.D.Delivery.takes g.D.Delivery.breaks c.args.writer.now c.end_beside.new.writer c.args.sheet.now.begun c.end_beside.new.sheet.begun
    (margined d y (TextLine (text_line d c.args.row 0) ∷ [])) c.end_beside.result) c.requires.start
    (one-margined d g.D.Delivery.takes g.D.Delivery.breaks _ _ _ _ c.args.sheet.now.written _ (TextLine (text_line d c.args.row 0)) _ _ _
    c.in_ok-begin_beside.ensures.written
    (c.in_ok-begin_beside.ensures.line texts)
    c.in_ok-push_plain_text_line.ensures
    (c.end_beside.ensures.bytes texts)
    c.end_beside.ensures.begun)
