use Rattle.papergrid_draw.proofs.SinkLemmas.{draws-also}
use Rattle.papergrid_draw.specs.Lined.{lined}
use Rattle.papergrid_json.specs.Pictures.{IsDocumentDrawing, IsDocumentDrawingWith, IsDocumentFault, IsDocumentFaultWith}
use Rattle.papergrid_json.proofs.DrawLemmas.{drawn-by-settings, fault-by-settings}
use Rattle.papergrid_json.proofs.drawing.draw_document.Goals as goal

pub returns : goal.returns
returns g c =
    let document = c.args.document.now in
    let config = c.in_ok-config.config in
    draws-also g.W.Sink.contents g.W.Sink.has_failed g.W.Sink.has_stalled (IsDocumentDrawingWith document c.args.sizing config) (IsDocumentFaultWith document c.args.sizing config) lined
    (IsDocumentDrawing document c.args.sizing) (IsDocumentFault document c.args.sizing)
    (drawn-by-settings document c.args.sizing config c.in_ok-config.ensures) (fault-by-settings document c.args.sizing config c.in_ok-config.ensures)
    c.args.sink.now c.draw_by.new.sink c.draw_by.result c.draw_by.ensures
