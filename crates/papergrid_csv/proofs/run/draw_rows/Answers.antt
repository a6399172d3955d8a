use Rattle.std.proofs.Common.{ap, length, map, refl, subst, sym}
use Rattle.std.specs.List.{AllZip}
use Rattle.papergrid_csv.specs.Pictures.{IsPictured}
use Rattle.papergrid_csv.specs.Cutting.{IsCut}
use Rattle.papergrid_csv.specs.Requests.{settings_of}
use Rattle.papergrid_csv.specs.Rows.{row_texts, held_texts}
use Rattle.papergrid_csv.specs.Shown.{AreCut}
use Rattle.papergrid_csv.specs.ForProofs.Drawn.{IsRowsRun, IsSettingsRun, Kept}
use Rattle.papergrid_csv.proofs.DrawLemmas.{run-silent}
use Rattle.papergrid_script.proofs.RunLemmas.{runs-also}
use Rattle.papergrid_csv.proofs.RunLemmas.{rows-run-of}
use Rattle.papergrid_csv.proofs.run.draw_rows.Goals as goal

pub returns-in-Some : goal.returns-in-Some
returns-in-Some g c =
    run-silent g.W.Sink.contents g.W.Sink.has_failed g.W.Sink.has_stalled (IsRowsRun c.args.request.now c.args.rows.now.columns (held_texts c.args.rows.now.rows)) c.args.writer.now c.in-Some.end
    (Kept c.in-Some.ensures refl)

pub returns-in-None : goal.returns-in-None
returns-in-None g c =
    let rows = held_texts c.args.rows.now.rows in
    runs-also g.W.Sink.contents g.W.Sink.has_failed g.W.Sink.has_stalled IsPictured
    (IsSettingsRun c.args.request.now (settings_of c.args.request.now c.args.rows.now.columns rows) (length c.deref.result.now, c.args.rows.now.columns) c.args.rows.now.columns (map row_texts c.deref.result.now))
    (IsRowsRun c.args.request.now c.args.rows.now.columns rows)
    (rows-run-of c.args.request.now c.args.rows.now.columns rows c.in_default.ensures c.args.rows.now.rows (subst (λ cut. AreCut cut rows rows) (sym c.in-None.is) refl)
    c.deref.result.now c.deref.ensures.value)
    c.args.writer.now c.draw_shown.new.writer c.draw_shown.result c.draw_shown.ensures

pub returns-in_ok-shown-in-Some-cut : goal.returns-in_ok-shown-in-Some-cut
returns-in_ok-shown-in-Some-cut g c =
    let rows = held_texts c.args.rows.now.rows in
    let shown = c.in_ok-shown-in-Some-cut.shown in
    let lent = c.deref-in-Some-cut-2.result.now in
    runs-also g.W.Sink.contents g.W.Sink.has_failed g.W.Sink.has_stalled IsPictured
    (IsSettingsRun c.args.request.now (settings_of c.args.request.now c.args.rows.now.columns rows) (length lent, c.args.rows.now.columns) c.args.rows.now.columns (map row_texts lent))
    (IsRowsRun c.args.request.now c.args.rows.now.columns rows)
    (rows-run-of c.args.request.now c.args.rows.now.columns rows c.in_default.ensures shown
    (subst (λ cut. AreCut cut rows (held_texts shown)) (sym c.in-Some-cut.is)
    (subst (λ held. AllZip (AllZip (IsCut c.in-Some-cut.columns)) held (held_texts shown)) (ap (map row_texts) c.deref-in-Some-cut.ensures.value) c.in_ok-shown-in-Some-cut.ensures))
    lent c.deref-in-Some-cut-2.ensures.value)
    c.args.writer.now c.draw_shown-in-Some-cut.new.writer c.draw_shown-in-Some-cut.result c.draw_shown-in-Some-cut.ensures
