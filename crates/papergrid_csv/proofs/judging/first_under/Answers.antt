use Rattle.std.proofs.Common.{◌<◌, ◌≡◌, [], arith, get_or, length, map, subst}
use Rattle.papergrid_csv.specs.Rows.{row_texts}
use Rattle.papergrid_csv.specs.ForProofs.Judging.{IsHiddenIn}
use Rattle.papergrid_csv.proofs.JudgingLemmas.{row-lent, row-next}
use Rattle.papergrid_csv.proofs.judging.first_under.Goals as goal

pub loop-row-preserved : goal.loop-row-preserved
loop-row-preserved c =
    let end = c.end_of-row-end.ensures in
    let within : c.loop-row.row < length c.args.rows.now = omega (arith, end, c.loop-row-test.true) in
    let same : get_or (map row_texts c.args.rows.now) c.loop-row.row [] ≡ map (λ field. field.now) c.deref.result.now =
    row-lent c.args.rows.now c.loop-row.row c.index-rows-row.result c.deref.result.now within c.index-rows-row.is c.deref.ensures.value in
    row-next c.args.span (map row_texts c.args.rows.now) c.loop-row.row c.loop-row.invariant
    (λ k hidden. c.in_default.ensures k (subst (λ fields. IsHiddenIn c.args.span c.loop-row.row fields k) same hidden))
