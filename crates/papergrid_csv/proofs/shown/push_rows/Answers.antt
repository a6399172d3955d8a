use Rattle.std.proofs.Common.{map, subst}
use Rattle.std.specs.List.{AllZip}
use Rattle.std.proofs.lemmas.List.{take_all}
use Rattle.papergrid_csv.specs.Cutting.{IsCut}
use Rattle.papergrid_csv.specs.Rows.{row_texts, held_texts}
use Rattle.papergrid_csv.proofs.ShownLemmas.{zip-next}
use Rattle.papergrid_csv.proofs.shown.push_rows.Goals as goal

pub loop-row-preserved : goal.loop-row-preserved
loop-row-preserved c =
    zip-next (AllZip (IsCut c.args.columns)) row_texts row_texts c.args.rows.now c.loop-row.row-index c.row-item.result c.row-item.result c.loop-row.shown.items _ c.in_ok-cut_row.field-0
    c.loop-row-test.true c.row-item.is c.loop-row.invariant
    (subst (λ fields. AllZip (IsCut c.args.columns) (map (λ field. field.now) fields) (row_texts c.in_ok-cut_row.field-0)) c.deref.ensures.value c.in_ok-cut_row.ensures) c.in_ok-push.ensures.items

pub returns : goal.returns
returns c =
    subst (λ rows. AllZip (AllZip (IsCut c.args.columns)) (map row_texts rows) (held_texts c.loop-row.shown))
    (take_all c.loop-row.row-index c.args.rows.now c.loop-row-test.false) c.loop-row.invariant
