use Rattle.std.proofs.Common.{subst}
use Rattle.std.proofs.lemmas.Result.{err_from_is_err_and}
use Rattle.papergrid_draw.specs.Lined.{lined}
use Rattle.papergrid_draw.specs.Pictures.{IsDrawingWith, IsFaultWith}
use Rattle.papergrid_draw.specs.Sinks.{WritesPicture}
use Rattle.papergrid_script.specs.Seen.{rows_seen, table_seen}
use Rattle.papergrid.proofs.RunLemmas.{run-broken, run-drawn, run-refused}
use Rattle.papergrid.proofs.drawing.draw_read.Goals as goal

pub returns-in-Ok : goal.returns-in-Ok
returns-in-Ok g c =
    let ran = subst (λ rows. WritesPicture g.W.Sink.contents g.W.Sink.has_failed g.W.Sink.has_stalled (IsDrawingWith c.args.script.columns (rows_seen rows) c.args.sizing c.in_ok-config.config)
    (IsFaultWith c.args.script.columns (rows_seen rows) c.args.sizing c.in_ok-config.config) lined c.args.writer.now c.draw_rows.new.writer c.draw_rows.result) c.deref.ensures.value c.draw_rows.ensures in
    run-drawn g.W.Sink.contents g.W.Sink.has_failed g.W.Sink.has_stalled c.args.sizing (table_seen c.args.script) c.in_ok-config.config c.in_ok-config.ensures.told c.args.writer.now c.draw_rows.new.writer
    (rw c.in-Ok.is at ran)

pub returns-in_err-text-in-Err : goal.returns-in_err-text-in-Err
returns-in_err-text-in-Err g c =
    let ran = subst (λ rows. WritesPicture g.W.Sink.contents g.W.Sink.has_failed g.W.Sink.has_stalled (IsDrawingWith c.args.script.columns (rows_seen rows) c.args.sizing c.in_ok-config.config)
    (IsFaultWith c.args.script.columns (rows_seen rows) c.args.sizing c.in_ok-config.config) lined c.args.writer.now c.draw_rows.new.writer c.draw_rows.result) c.deref.ensures.value c.draw_rows.ensures in
    let p = err_from_is_err_and c.from_residual-in_err-text-in-Err.result c.from_residual-in_err-text-in-Err.ensures.1 in
    rw (p.1, p.2)
    (run-broken g.W.Sink.contents g.W.Sink.has_failed g.W.Sink.has_stalled c.args.sizing (table_seen c.args.script) c.in_ok-config.config c.in_ok-config.ensures.told c.args.writer.now c.draw_rows.new.writer
    c.in-Err.error _ c.in_err-text-in-Err.ensures.err.0 c.in_err-text-in-Err.ensures.err.1 (rw c.in-Err.is at ran))

pub returns : goal.returns
returns g c =
    let ran = subst (λ rows. WritesPicture g.W.Sink.contents g.W.Sink.has_failed g.W.Sink.has_stalled (IsDrawingWith c.args.script.columns (rows_seen rows) c.args.sizing c.in_ok-config.config)
    (IsFaultWith c.args.script.columns (rows_seen rows) c.args.sizing c.in_ok-config.config) lined c.args.writer.now c.draw_rows.new.writer c.draw_rows.result) c.deref.ensures.value c.draw_rows.ensures in
    run-refused g.W.Sink.contents g.W.Sink.has_failed g.W.Sink.has_stalled c.args.sizing (table_seen c.args.script) c.in_ok-config.config c.in_ok-config.ensures.told c.args.writer.now c.draw_rows.new.writer
    c.say.new.writer c.in-Err.error c.in_ok-text-in-Err.text.items c.say.result c.in_ok-text-in-Err.ensures.ok.0 (rw c.in-Err.is at ran) c.in_ok-text-in-Err.ensures.ok.1 c.say.ensures.written
