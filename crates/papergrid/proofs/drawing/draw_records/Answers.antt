use Rattle.std.proofs.Common.{◌∙◌, ap, refl}
use Rattle.std.proofs.lemmas.Result.{err_from_is_err_and}
use Rattle.papergrid_text.specs.HeldRows.{column_count}
use Rattle.papergrid_draw.specs.Margins.{printed}
use Rattle.papergrid_draw.specs.Pictures.{texts_held}
use Rattle.papergrid_draw.proofs.PictureLemmas.{drawing-told, drawn-so, refusal-told, room-with, unsized}
use Rattle.papergrid.proofs.drawing.draw_records.Goals as goal

pub returns-in_err-table : goal.returns-in_err-table
returns-in_err-table g c =
    let records = c.args.records.now in
    let e = c.in_err-table.field-0.0 in
    let p = err_from_is_err_and c.from_residual.result c.from_residual.ensures.1 in
    rw (p.1, p.2)
    (unsized g.W.Sink.contents g.W.Sink.has_failed g.W.Sink.has_stalled c.args.config.now (column_count records) (texts_held g.T.AsStr.text records) c.args.sizing printed c.args.sink.now e
    (refusal-told (λ cell. cell.now) g.T.AsStr.text (λ row. row.items) c.args.config.now c.args.sizing refl refl e c.in_err-table.ensures))

pub draw_cells-requires : goal.draw_cells-requires
draw_cells-requires g c = λ known.
    let records = c.args.records.now in
    room-with (column_count records) (texts_held g.T.AsStr.text records) c.args.sizing c.args.config.now _
    (drawing-told (λ cell. cell.now) g.T.AsStr.text (λ row. row.items) c.args.config.now c.args.sizing refl refl c.in_ok-table.table c.in_ok-table.ensures
    c.as_slice.result.now (c.as_slice.ensures.value ∙ ap (λ rows. rows.items) c.deref.ensures))

pub returns : goal.returns
returns g c =
    let records = c.args.records.now in
    drawn-so g.W.Sink.contents g.W.Sink.has_failed g.W.Sink.has_stalled c.args.config.now (column_count records) (texts_held g.T.AsStr.text records) c.args.sizing printed _
    (drawing-told (λ cell. cell.now) g.T.AsStr.text (λ row. row.items) c.args.config.now c.args.sizing refl refl c.in_ok-table.table c.in_ok-table.ensures
    c.as_slice.result.now (c.as_slice.ensures.value ∙ ap (λ rows. rows.items) c.deref.ensures))
    c.args.sink.now c.draw_cells.new.sink c.draw_cells.result c.draw_cells.ensures.drawable c.draw_cells.ensures.picture c.draw_cells.ensures.fault c.draw_cells.ensures.left
