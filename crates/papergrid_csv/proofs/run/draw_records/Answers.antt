use Rattle.std.proofs.Common.{ℕ, length, map, refl}
use Rattle.papergrid_csv.specs.Pictures.{IsPictured}
use Rattle.papergrid_csv.specs.Rows.{row_texts}
use Rattle.papergrid_csv.specs.ForProofs.Drawn.{Configured, Crossed, IsConfigRun, IsSettingsRun}
use Rattle.papergrid_csv.proofs.DrawLemmas.{run-refused}
use Rattle.papergrid_script.proofs.RunLemmas.{runs-also}
use Rattle.papergrid_csv.proofs.run.draw_records.Goals as goal

pub returns-in-Err : goal.returns-in-Err
returns-in-Err g c =
    let shape : ℕ × ℕ = (length c.args.rows.now, c.args.columns) in
    rw c.end_refused.ensures
    (run-refused g.W.Sink.contents g.W.Sink.has_failed g.W.Sink.has_stalled (IsSettingsRun c.args.request.now c.args.settings.items shape c.args.columns (map row_texts c.args.rows.now))
    c.args.writer.now c.in-Err.error c.in-Err.ensures.works (λ named. Crossed c.in-Err.error refl named (c.in-Err.ensures.err named) refl))

pub returns-in-Ok : goal.returns-in-Ok
returns-in-Ok g c =
    let shape : ℕ × ℕ = (length c.args.rows.now, c.args.columns) in
    let config = c.in-Ok.config in
    runs-also g.W.Sink.contents g.W.Sink.has_failed g.W.Sink.has_stalled IsPictured
    (IsConfigRun c.args.request.now c.args.columns (map row_texts c.args.rows.now) config)
    (IsSettingsRun c.args.request.now c.args.settings.items shape c.args.columns (map row_texts c.args.rows.now))
    (λ end output so. Configured config c.in-Ok.ensures.ok so) c.args.writer.now c.draw_configured.new.writer c.draw_configured.result c.draw_configured.ensures
