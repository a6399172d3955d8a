use Rattle.std.proofs.lemmas.Result.{err_from_is_err_and}
use Rattle.papergrid_draw.specs.ForProofs.FilledFrames.{filled}
use Rattle.papergrid_draw.proofs.SheetLemmas.{told_texts}
use Rattle.papergrid_draw.proofs.DeliveryLemmas.{draws-refused, draws-written}
use Rattle.papergrid_draw.proofs.RefusalLemmas.{found-drawable, large-refusal, room-refusal, width-found}
use Rattle.papergrid_draw.proofs.filled_frame.FilledFrame.draw_tiled.Goals as goal

pub returns-in_err-find_room : goal.returns-in_err-find_room
returns-in_err-find_room g c =
    let d = filled g.S.Cells.lines g.S.Cells.color c.args.self.now in
    let p = err_from_is_err_and c.from_residual.result c.from_residual.ensures.1 in
    rw (p.1, p.2) (draws-refused g.D.Delivery.takes g.D.Delivery.breaks _ d _ _ (room-refusal d _ c.args.self.now.frame.now.tiled c.in_err-find_room.ensures.err))

pub returns-in_err-width : goal.returns-in_err-width
returns-in_err-width g c =
    let d = filled g.S.Cells.lines g.S.Cells.color c.args.self.now in
    let p = err_from_is_err_and c.from_residual-in_err-width.result c.from_residual-in_err-width.ensures.1 in
    rw (p.1, p.2) (draws-refused g.D.Delivery.takes g.D.Delivery.breaks _ d _ _
    (large-refusal d c.whole_width.result _ c.requires.some c.args.self.now.frame.now.tiled c.in_ok-find_room.ensures.ok (c.whole_width.ensures (told_texts g.S.Cells.lines g.S.Cells.color c.args.self.now.cells.now)) c.in_err-width.ensures.value))

pub draw_all-requires : goal.draw_all-requires
draw_all-requires g c =
    width-found c.whole_width.result _ _ _ (c.whole_width.ensures (told_texts g.S.Cells.lines g.S.Cells.color c.args.self.now.cells.now)) c.in_ok-width.ensures.value

pub returns : goal.returns
returns g c =
    let d = filled g.S.Cells.lines g.S.Cells.color c.args.self.now in
    draws-written g.D.Delivery.takes g.D.Delivery.breaks _ _ d _ _
    (found-drawable d c.whole_width.result _ c.args.self.now.frame.now.tiled c.in_ok-find_room.ensures.ok (c.whole_width.ensures (told_texts g.S.Cells.lines g.S.Cells.color c.args.self.now.cells.now)) c.in_ok-width.ensures.value)
    c.draw_all.ensures
