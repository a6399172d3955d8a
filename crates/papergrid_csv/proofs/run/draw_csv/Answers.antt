use Rattle.papergrid_csv.specs.Pictures.{IsCsvRun, IsPictured}
use Rattle.papergrid_csv.specs.Rows.{held_texts}
use Rattle.papergrid_csv.specs.ForProofs.Drawn.{IsRowsRun}
use Rattle.papergrid_script.proofs.RunLemmas.{runs-also}
use Rattle.papergrid_csv.proofs.RunLemmas.{csv-run-of, unread-run}
use Rattle.papergrid_csv.proofs.run.draw_csv.Goals as goal

pub returns-in-Ok : goal.returns-in-Ok
returns-in-Ok g c =
    let rows = c.in-Ok.rows in
    runs-also g.W.Sink.contents g.W.Sink.has_failed g.W.Sink.has_stalled IsPictured (IsRowsRun c.args.request.now rows.columns (held_texts rows.rows)) (IsCsvRun c.args.request.now c.args.input.now)
    (csv-run-of c.args.request.now c.args.input.now rows.columns (held_texts rows.rows) c.in-Ok.ensures.rows) c.args.writer.now c.draw_rows.new.writer c.draw_rows.result c.draw_rows.ensures

pub returns : goal.returns
returns g c =
    rw c.end_unread.ensures (unread-run g.W.Sink.contents g.W.Sink.has_failed g.W.Sink.has_stalled c.args.request.now c.args.input.now c.args.writer.now c.in-Err.error c.in-Err.ensures.unread)
