use Rattle.std.proofs.Common.{◌≡◌, All, length, map, subst, sym, true}
use Rattle.std.proofs.lemmas.Result.{err_from_is_err_and}
use Rattle.papergrid_config.specs.Applied.{is_in_range}
use Rattle.papergrid_csv.specs.Pictures.{WritesCsv}
use Rattle.papergrid_csv.specs.Requests.{settings_of}
use Rattle.papergrid_csv.specs.Rows.{row_texts, held_texts}
use Rattle.papergrid_csv.specs.ForProofs.Drawn.{IsSettingsRun}
use Rattle.papergrid_csv.proofs.DrawLemmas.{run-no_memory}
use Rattle.papergrid_csv.proofs.RequestLemmas.{all-in-range}
use Rattle.papergrid_csv.proofs.run.draw_shown.Goals as goal

pub returns-in_err-settings : goal.returns-in_err-settings
returns-in_err-settings g c =
    let rows = c.args.rows.now in
    let p = err_from_is_err_and c.from_residual.result c.from_residual.ensures.1 in
    rw (p.1, p.2) (run-no_memory g.W.Sink.contents g.W.Sink.has_failed g.W.Sink.has_stalled
    (IsSettingsRun c.args.request.now (settings_of c.args.request.now rows.columns (held_texts rows.rows)) (length c.args.shown.now, rows.columns) rows.columns (map row_texts c.args.shown.now)) c.args.writer.now)

pub draw_records-requires : goal.draw_records-requires
draw_records-requires g c =
    subst (All (λ setting. is_in_range setting ≡ true)) (sym c.in_ok-settings.ensures) (all-in-range c.args.request.now c.args.rows.now.columns (held_texts c.args.rows.now.rows))

pub returns : goal.returns
returns g c =
    let columns = c.args.rows.now.columns in
    subst (λ settings. WritesCsv g.W.Sink.contents g.W.Sink.has_failed g.W.Sink.has_stalled (IsSettingsRun c.args.request.now settings (length c.args.shown.now, columns) columns (map row_texts c.args.shown.now))
    c.args.writer.now c.draw_records.new.writer c.draw_records.result) c.in_ok-settings.ensures c.draw_records.ensures
