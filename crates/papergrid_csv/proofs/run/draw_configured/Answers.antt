use Rattle.std.proofs.Common.{ap, map, refl}
use Rattle.papergrid_draw.specs.Drawings.{Drawing}
use Rattle.papergrid_draw.specs.Pictures.{texts_drawing}
use Rattle.papergrid_draw.proofs.PictureLemmas.{drawing-told, refusal-told, room-with}
use Rattle.papergrid_csv.specs.Pictures.{IsPictured}
use Rattle.papergrid_csv.specs.Rows.{row_texts}
use Rattle.papergrid_csv.specs.ForProofs.Drawn.{IsConfigRun, IsTableRun, Sized}
use Rattle.papergrid_script.proofs.RunLemmas.{runs-also}
use Rattle.papergrid_csv.proofs.RunLemmas.{unsized-run}
use Rattle.papergrid_csv.proofs.run.draw_configured.Goals as goal

pub returns-in-Err : goal.returns-in-Err
returns-in-Err g c =
    let rows = ap (λ r. r.iter.now) c.new-records.ensures in
    let columns = ap (λ r. r.count_columns) c.new-records.ensures in
    rw (c.end_refused.ensures, c.from.ensures)
    (unsized-run g.W.Sink.contents g.W.Sink.has_failed g.W.Sink.has_stalled c.args.request.now c.args.columns (map row_texts c.args.rows.now) c.args.config.now c.args.writer.now c.in-Err.error
    (refusal-told (λ cell. cell.now) (λ text. text.now) (λ row. row.items) c.args.config.now c.args.request.now.sizing columns rows c.in-Err.error c.in-Err.ensures))

pub draw_table-requires : goal.draw_table-requires
draw_table-requires g c =
    let rows = ap (λ r. r.iter.now) c.new-records.ensures in
    let columns = ap (λ r. r.count_columns) c.new-records.ensures in
    room-with c.args.columns (map row_texts c.args.rows.now) c.args.request.now.sizing c.args.config.now _
    (drawing-told (λ cell. cell.now) (λ text. text.now) (λ row. row.items) c.args.config.now c.args.request.now.sizing columns rows c.in-Ok.table c.in-Ok.ensures c.args.rows.now refl)

pub returns-in-Ok : goal.returns-in-Ok
returns-in-Ok g c =
    let texts = map row_texts c.args.rows.now in
    let rows = ap (λ r. r.iter.now) c.new-records.ensures in
    let columns = ap (λ r. r.count_columns) c.new-records.ensures in
    let drawn = drawing-told (λ cell. cell.now) (λ text. text.now) (λ row. row.items) c.args.config.now c.args.request.now.sizing columns rows c.in-Ok.table c.in-Ok.ensures c.args.rows.now refl in
    let d : Drawing = texts_drawing c.in-Ok.table.config texts c.in-Ok.table.widths c.in-Ok.table.heights in
    runs-also g.W.Sink.contents g.W.Sink.has_failed g.W.Sink.has_stalled IsPictured (IsTableRun c.args.request.now.max_width d) (IsConfigRun c.args.request.now c.args.columns texts c.args.config.now)
    (λ end output so. Sized d drawn so) c.args.writer.now c.draw_table.new.writer c.draw_table.result c.draw_table.ensures
