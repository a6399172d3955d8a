use Rattle.std.proofs.lemmas.Result.{err_from_is_err_and}
use Rattle.papergrid_draw.specs.Errors.{draw_error_of}
use Rattle.papergrid_draw.proofs.SinkLemmas.{draws-none, draws-so}
use Rattle.papergrid_draw.specs.Lined.{lined}
use Rattle.papergrid_draw.proofs.PictureLemmas.{no-write}
use Rattle.papergrid_json.specs.Pictures.{IsDocumentDrawingWith, IsDocumentFaultWith, Undrawn}
use Rattle.papergrid_json.proofs.DrawLemmas.{drawing-by, room-found, unsized}
use Rattle.papergrid_json.proofs.drawing.draw_by.Goals as goal

pub returns-in_err-table : goal.returns-in_err-table
returns-in_err-table g c =
    let document = c.args.document.now in
    let config = c.args.config.now in
    let e = c.in_err-table.field-0.0 in
    let p = err_from_is_err_and c.from_residual.result c.from_residual.ensures.1 in
    rw (p.1, p.2)
    (draws-none g.W.Sink.contents g.W.Sink.has_failed g.W.Sink.has_stalled (IsDocumentDrawingWith document c.args.sizing config) (IsDocumentFaultWith document c.args.sizing config) lined
    c.args.sink.now (draw_error_of e) (no-write e) (unsized document c.args.sizing config e c.in_err-table.ensures))

pub draw_lines-requires : goal.draw_lines-requires
draw_lines-requires g c = λ known.
    room-found c.args.document.now c.args.sizing c.args.config.now c.as_slice.result.now c.in_ok-table.table c.as_slice.ensures.value c.in_ok-table.ensures (c.room_of.ensures known)

pub returns : goal.returns
returns g c =
    let document = c.args.document.now in
    let config = c.args.config.now in
    let is = drawing-by document c.args.sizing config c.as_slice.result.now c.in_ok-table.table c.as_slice.ensures.value c.in_ok-table.ensures in
    draws-so g.W.Sink.contents g.W.Sink.has_failed g.W.Sink.has_stalled (IsDocumentDrawingWith document c.args.sizing config) (IsDocumentFaultWith document c.args.sizing config) lined
    _ is (λ e fault. Undrawn _ is fault)
    c.args.sink.now c.draw_lines.new.sink c.draw_lines.result c.draw_lines.ensures.drawable c.draw_lines.ensures.picture c.draw_lines.ensures.fault c.draw_lines.ensures.left
