use Rattle.std.proofs.Common.{arith}
use Rattle.papergrid_text.specs.HeldRows.{column_count}
use Rattle.papergrid_draw.specs.Margins.{printed}
use Rattle.papergrid_draw.proofs.SinkLemmas.{draws-also}
use Rattle.papergrid_draw.specs.Pictures.{IsDrawingBy, IsDrawingWith, IsFaultWith, IsPictureFault, texts_held}
use Rattle.papergrid_draw.proofs.PictureLemmas.{drawn-by-settings, fault-by-settings, picture-has-room}
use Rattle.papergrid.proofs.drawing.draw.Goals as goal

pub returns-clause-picture : goal.returns-clause-picture
returns-clause-picture g c =
    let columns = column_count c.args.records.now in
    let texts = texts_held g.T.AsStr.text c.args.records.now in
    let settings = c.args.settings.items in
    let config = c.in_ok-config.config in
    draws-also g.W.Sink.contents g.W.Sink.has_failed g.W.Sink.has_stalled (IsDrawingWith columns texts c.args.sizing config) (IsFaultWith columns texts c.args.sizing config) printed
    (IsDrawingBy columns texts c.args.sizing settings) (IsPictureFault columns texts c.args.sizing settings)
    (drawn-by-settings settings config c.in_ok-config.ensures columns texts c.args.sizing) (fault-by-settings settings config c.in_ok-config.ensures columns texts c.args.sizing)
    c.args.sink.now c.draw_records.new.sink c.draw_records.result c.draw_records.ensures

pub returns-clause-room : goal.returns-clause-room
returns-clause-room g c = grind (arith, picture-has-room)
