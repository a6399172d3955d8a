use Rattle.std.proofs.Common.{subst}
use Rattle.std.specs.Prelude.{⊤}
use Rattle.std.proofs.lemmas.Result.{err_from_is_err_and}
use Rattle.papergrid_script.specs.Writing.{WritesOutput}
use Rattle.papergrid_script.proofs.RunLemmas.{runs-read, runs-unread}
use Rattle.papergrid_table.specs.Pictures.{IsRunOf}
use Rattle.papergrid_table.proofs.picture.run_input.Goals as goal

pub returns-in_err-input-clause-runs : goal.returns-in_err-input-clause-runs
returns-in_err-input-clause-runs g c =
    let p = err_from_is_err_and c.from_residual.result c.from_residual.ensures.1 in
    let read = c.in_err-input.ensures in
    rw (p.1, p.2) (runs-unread c.requires.reader c.requires.writer c.in_err-input.field-0.0 read.memory read.read read.never_write)

pub returns-clause-runs : goal.returns-clause-runs
returns-clause-runs g c =
    let wanted = c.args.wanted.now in
    let cut = c.draw_input.new.wanted.request.cut in
    let read = c.in_ok-input.ensures in
    let so = subst (λ input. WritesOutput g.W.Sink.contents g.W.Sink.has_failed g.W.Sink.has_stalled (λ _. ⊤) (IsRunOf wanted.kind wanted cut input) c.args.writer.now c.draw_input.new.writer c.draw_input.result) c.as_slice.ensures.value c.draw_input.ensures.written in
    runs-read c.requires.reader c.requires.writer (λ _. ⊤) read.works read.whole c.draw_input.result so
