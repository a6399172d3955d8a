use Rattle.std.proofs.Common.{All, map, subst}
use Rattle.std.proofs.lemmas.List.{take_all}
use Rattle.papergrid_csv.specs.Rows.{row_texts}
use Rattle.papergrid_csv.specs.ForProofs.Cuts.{HasLinesWithin}
use Rattle.papergrid_csv.proofs.WidestLemmas.{all-next, row-grows}
use Rattle.papergrid_csv.proofs.widest.widest_line.Goals as goal

pub loop-row-preserved : goal.loop-row-preserved
loop-row-preserved c =
    all-next (λ columns row. All (HasLinesWithin columns) row) row-grows row_texts c.args.rows.now c.loop-row.row-index c.row-item.result c.row-item.result
    c.loop-row.widest c.widest_in_row.result c.max-widest.result c.loop-row-test.true c.row-item.is c.loop-row.invariant
    (subst (λ fields. All (HasLinesWithin c.widest_in_row.result) (map (λ field. field.now) fields)) c.deref.ensures.value c.widest_in_row.ensures) c.max-widest.ensures

pub returns : goal.returns
returns c =
    subst (λ rows. All (All (HasLinesWithin c.loop-row.widest)) (map row_texts rows)) (take_all c.loop-row.row-index c.args.rows.now c.loop-row-test.false) c.loop-row.invariant
