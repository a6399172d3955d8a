use Rattle.std.proofs.Common.{◌<◌, arith, length, map}
use Rattle.std.proofs.lemmas.Bool.{false≢true}
use Rattle.papergrid_csv.proofs.JudgingLemmas.{column-next, field-lent}
use Rattle.papergrid_csv.proofs.judging.first_in_row.Goals as goal

pub loop-col-preserved : goal.loop-col-preserved
loop-col-preserved c =
    let end = c.end_of-col-end.ensures in
    let within : c.loop-col.col < length c.args.fields.now = omega (arith, end, c.loop-col-test.true) in
    column-next c.args.span c.args.row (map (λ field. field.now) c.args.fields.now) c.loop-col.col c.loop-col.invariant
    (λ hidden. false≢true (c.if-is_hidden.ensures.1 (field-lent c.args.fields.now c.loop-col.col _ within hidden.1, hidden.0.other)))
