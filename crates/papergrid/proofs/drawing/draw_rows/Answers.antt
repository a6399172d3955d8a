use Rattle.std.proofs.Common.{◌∙◌, ap, refl}
use Rattle.std.proofs.lemmas.Result.{err_from_is_err_and}
use Rattle.papergrid_draw.specs.Lined.{lined}
use Rattle.papergrid_script.specs.Seen.{rows_seen}
use Rattle.papergrid_draw.proofs.PictureLemmas.{drawing-told, drawn-so, refusal-told, room-with, unsized}
use Rattle.papergrid.proofs.drawing.draw_rows.Goals as goal

pub returns-in_err-table : goal.returns-in_err-table
returns-in_err-table g c =
    let e = c.in_err-table.field-0.0 in
    let rows = ap (λ r. r.iter.items) c.new-records.ensures ∙ c.in_ok-from_slice.ensures.items in
    let columns = ap (λ r. r.count_columns) c.new-records.ensures in
    let p = err_from_is_err_and c.from_residual-in_err-table.result c.from_residual-in_err-table.ensures.1 in
    rw (p.1, p.2)
    (unsized g.W.Sink.contents g.W.Sink.has_failed g.W.Sink.has_stalled c.args.config.now c.args.columns (rows_seen c.args.rows.now) c.args.sizing lined c.args.writer.now e
    (refusal-told (λ cell. cell.now) (λ text. text.now) (λ row. row.now) c.args.config.now c.args.sizing columns rows e c.in_err-table.ensures))

pub draw_lines-requires : goal.draw_lines-requires
draw_lines-requires g c = λ known.
    let rows = ap (λ r. r.iter.items) c.new-records.ensures ∙ c.in_ok-from_slice.ensures.items in
    let columns = ap (λ r. r.count_columns) c.new-records.ensures in
    room-with c.args.columns (rows_seen c.args.rows.now) c.args.sizing c.args.config.now _
    (drawing-told (λ cell. cell.now) (λ text. text.now) (λ row. row.now) c.args.config.now c.args.sizing columns rows c.in_ok-table.table c.in_ok-table.ensures c.args.rows.now refl)

pub returns : goal.returns
returns g c =
    let rows = ap (λ r. r.iter.items) c.new-records.ensures ∙ c.in_ok-from_slice.ensures.items in
    let columns = ap (λ r. r.count_columns) c.new-records.ensures in
    drawn-so g.W.Sink.contents g.W.Sink.has_failed g.W.Sink.has_stalled c.args.config.now c.args.columns (rows_seen c.args.rows.now) c.args.sizing lined _
    (drawing-told (λ cell. cell.now) (λ text. text.now) (λ row. row.now) c.args.config.now c.args.sizing columns rows c.in_ok-table.table c.in_ok-table.ensures c.args.rows.now refl)
    c.args.writer.now c.draw_lines.new.sink c.draw_lines.result c.draw_lines.ensures.drawable c.draw_lines.ensures.picture c.draw_lines.ensures.fault c.draw_lines.ensures.left
