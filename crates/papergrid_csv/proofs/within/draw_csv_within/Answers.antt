use Rattle.std.proofs.Common.{arith}
use Rattle.std.proofs.lemmas.Result.{err_from_is_err_and}
use Rattle.papergrid_csv.specs.Rows.{held_texts}
use Rattle.papergrid_csv.proofs.WithinLemmas.{broken-first, broken-next, next-greatest, next-request, run-within, tried-first, tried-next, unread-within}
use Rattle.papergrid_csv.proofs.within.draw_csv_within.Goals as goal
use Rattle.papergrid_csv.proofs.within.draw_csv_within.Goals.{then-loop-next-test+else-is_too_wide, else-loop-next-test}

pub loop-next-init : goal.loop-next-init
loop-next-init g c =
    tried-first g.W.Sink.contents g.W.Sink.has_failed g.W.Sink.has_stalled c.args.request.now c.args.width c.args.input.now c.in-Ok.rows.columns (held_texts c.in-Ok.rows.rows) c.in-Ok.ensures.rows
    c.args.writer.now c.draw_rows.new.writer c.in_ok-end.end c.first_cut-next.result c.in_ok-end.ensures c.first_cut-next.ensures

pub returns-in-Err-clause-runs : goal.returns-in-Err-clause-runs
returns-in-Err-clause-runs g c =
    rw c.end_unread.ensures
    (unread-within g.W.Sink.contents g.W.Sink.has_failed g.W.Sink.has_stalled c.args.request.now c.args.width c.args.input.now c.args.writer.now c.in-Err.error c.in-Err.ensures.unread)

pub returns-in_err-end-clause-runs : goal.returns-in_err-end-clause-runs
returns-in_err-end-clause-runs g c =
    let p = err_from_is_err_and c.from_residual.result c.from_residual.ensures.1 in
    rw (p.1, p.2) (broken-first g.W.Sink.contents g.W.Sink.has_failed g.W.Sink.has_stalled c.args.request.now c.args.width c.args.input.now c.in-Ok.rows.columns (held_texts c.in-Ok.rows.rows) c.in-Ok.ensures.rows
    c.args.writer.now c.draw_rows.new.writer c.in_err-end.field-0.0 c.in_err-end.ensures)

pub returns-in_err-end-2-clause-runs : goal.returns-in_err-end-2-clause-runs
returns-in_err-end-2-clause-runs g c =
    let p = err_from_is_err_and c.from_residual-in_err-end-2.result c.from_residual-in_err-end-2.ensures.1 in
    let wide = c.is_too_wide.ensures.0 c.if-is_too_wide.true in
    rw (p.1, p.2) (broken-next g.W.Sink.contents g.W.Sink.has_failed g.W.Sink.has_stalled c.args.request.now c.args.width c.args.input.now
    c.args.writer.now c.loop-next.writer c.loop-next.request c.loop-next.end c.loop-next.next c.loop-next.invariant c.in-Ok.rows.columns (held_texts c.in-Ok.rows.rows) c.in-Ok.ensures.rows
    c.loop-next-test.true wide.0 wide.1 c.draw_rows-in-loop-next.new.writer c.in_err-end-2.field-0.0 c.in_err-end-2.ensures)

pub returns-in_err-end-2-clause-greatest : goal.returns-in_err-end-2-clause-greatest
returns-in_err-end-2-clause-greatest g c =
    let wide = c.is_too_wide.ensures.0 c.if-is_too_wide.true in
    next-greatest g.W.Sink.contents g.W.Sink.has_failed g.W.Sink.has_stalled c.args.request.now c.args.width c.args.input.now
    c.args.writer.now c.loop-next.writer c.loop-next.request c.loop-next.end c.loop-next.next c.loop-next.invariant c.loop-next-test.true wide.0 wide.1

pub returns-clause-greatest : goal.returns-clause-greatest
returns-clause-greatest g c = c.loop-next.invariant.greatest

pub returns-in_err-end-2-clause-request : goal.returns-in_err-end-2-clause-request
returns-in_err-end-2-clause-request g c =
    next-request g.W.Sink.contents g.W.Sink.has_failed g.W.Sink.has_stalled c.args.request.now c.args.width c.args.input.now
    c.args.writer.now c.loop-next.writer c.loop-next.request c.loop-next.end c.loop-next.next c.loop-next.invariant

pub loop-next-preserved : goal.loop-next-preserved
loop-next-preserved g c =
    let wide = c.is_too_wide.ensures.0 c.if-is_too_wide.true in
    tried-next g.W.Sink.contents g.W.Sink.has_failed g.W.Sink.has_stalled c.args.request.now c.args.width c.args.input.now
    c.args.writer.now c.loop-next.writer c.loop-next.request c.loop-next.end c.loop-next.next c.loop-next.invariant c.in-Ok.rows.columns (held_texts c.in-Ok.rows.rows) c.in-Ok.ensures.rows
    c.loop-next-test.true wide.0 wide.1 c.draw_rows-in-loop-next.new.writer c.in_ok-end-2.end c.in_ok-end-2.ensures

pub returns-clause-runs : goal.returns-clause-runs
returns-clause-runs g c =
    run-within g.W.Sink.contents g.W.Sink.has_failed g.W.Sink.has_stalled c.args.request.now c.args.width c.args.input.now
    c.args.writer.now c.loop-next.writer c.loop-next.request c.loop-next.end c.loop-next.next c.loop-next.invariant
    (λ found wide. elim c.loop-next-test.branch [
      | then-loop-next-test+else-is_too_wide w ↦ absurd (let is = w.is_too_wide.ensures.1 (found, wide) in let not = w.if-is_too_wide.false in let none : ⊥ = cc in none)
      | else-loop-next-test w ↦ (let none = w.loop-next-test.false in omega (arith, none))
    ])
