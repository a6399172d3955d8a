use Rattle.std.proofs.lemmas.Result.{err_from_is_err_and}
use Rattle.papergrid_draw.specs.ForProofs.FilledFrames.{filled}
use Rattle.papergrid_draw.proofs.PrinterLemmas.{margin-read, picture-cut, picture-cut-above, picture-whole}
use Rattle.papergrid_draw.proofs.filled_frame.FilledFrame.draw_all.Goals as goal

pub returns-in_err-draw_margin : goal.returns-in_err-draw_margin
returns-in_err-draw_margin g c =
    let d = filled g.S.Cells.lines g.S.Cells.color c.args.self.now in
    let p = err_from_is_err_and c.from_residual.result c.from_residual.ensures.1 in
    rw (p.1, p.2)
    (picture-cut-above d g.D.Delivery.takes g.D.Delivery.breaks _ _ _ _ _ c.new-sheet.ensures.begun
    (margin-read g.D.Delivery.takes g.D.Delivery.breaks _ _ _ _ _ _ _ _ _ _ _ _ (λ m. m.top) (λ k. k.margin_color.top) (λ m. m.top)
    c.args.self.now.frame.now.read.config_is c.get_margin-margin.ensures c.get_margin_color-color.ensures.top c.get_margin_offset-offset.ensures c.requires c.in_err-draw_margin.ensures.lines))

pub returns-in_err-draw_rows : goal.returns-in_err-draw_rows
returns-in_err-draw_rows g c =
    let d = filled g.S.Cells.lines g.S.Cells.color c.args.self.now in
    let p = err_from_is_err_and c.from_residual-in_err-draw_rows.result c.from_residual-in_err-draw_rows.ensures.1 in
    rw (p.1, p.2)
    (picture-cut d g.D.Delivery.takes g.D.Delivery.breaks _ _ _ _ _ _ tt _ c.new-sheet.ensures.begun
    (margin-read g.D.Delivery.takes g.D.Delivery.breaks _ _ _ _ _ _ _ _ _ _ _ _ (λ m. m.top) (λ k. k.margin_color.top) (λ m. m.top)
    c.args.self.now.frame.now.read.config_is c.get_margin-margin.ensures c.get_margin_color-color.ensures.top c.get_margin_offset-offset.ensures c.requires c.in_ok-draw_margin.ensures.lines)
    c.in_err-draw_rows.ensures)

pub returns : goal.returns
returns g c =
    let d = filled g.S.Cells.lines g.S.Cells.color c.args.self.now in
    picture-whole d g.D.Delivery.takes g.D.Delivery.breaks _ _ _ _ _ _ _ _ tt tt _ c.new-sheet.ensures.begun
    (margin-read g.D.Delivery.takes g.D.Delivery.breaks _ _ _ _ _ _ _ _ _ _ _ _ (λ m. m.top) (λ k. k.margin_color.top) (λ m. m.top)
    c.args.self.now.frame.now.read.config_is c.get_margin-margin.ensures c.get_margin_color-color.ensures.top c.get_margin_offset-offset.ensures c.requires c.in_ok-draw_margin.ensures.lines)
    c.in_ok-draw_rows.ensures
    (margin-read g.D.Delivery.takes g.D.Delivery.breaks _ _ _ _ _ _ _ _ _ _ _ _ (λ m. m.bottom) (λ k. k.margin_color.bottom) (λ m. m.bottom)
    c.args.self.now.frame.now.read.config_is c.get_margin-margin.ensures c.get_margin_color-color.ensures.bottom c.get_margin_offset-offset.ensures c.requires c.draw_margin-2.ensures.lines)
