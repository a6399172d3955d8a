use Rattle.std.proofs.Common.{◌∙◌, arith, sym}
use Rattle.papergrid_csv.proofs.StartLemmas.{behind-end, behind-here, behind-next}
use Rattle.papergrid_csv.proofs.starts.past_record.Goals as goal

pub returns-then-ends_record : goal.returns-then-ends_record
returns-then-ends_record c = behind-here c.args.format c.args.text.now c.loop-at.context c.loop-at.at c.loop-at-test.true c.loop-at.invariant.1 (sym c.ends_record.ensures ∙ c.if-ends_record.true)

pub loop-at-preserved : goal.loop-at-preserved
loop-at-preserved c =
    let next = behind-next c.args.format c.args.text.now c.loop-at.context c.loop-at.at c.loop-at-test.true c.loop-at.invariant.1 (sym c.ends_record.ensures ∙ c.if-ends_record.false) in
    let within = c.loop-at-test.true in
    (omega (arith, within), rw c.context_by-context.ensures next)

pub returns : goal.returns
returns c = behind-end c.args.format c.args.text.now c.loop-at.context c.loop-at.at (let past = c.loop-at-test.false in omega (arith, past)) c.loop-at.invariant.1
