use Rattle.std.proofs.Common.{map, refl, subst}
use Rattle.std.specs.List.{AllZip}
use Rattle.std.proofs.lemmas.List.{take_all}
use Rattle.papergrid_csv.specs.Cutting.{IsCut}
use Rattle.papergrid_csv.specs.Rows.{row_texts}
use Rattle.papergrid_csv.proofs.ShownLemmas.{zip-next}
use Rattle.papergrid_csv.proofs.shown.push_fields.Goals as goal

pub loop-field-preserved : goal.loop-field-preserved
loop-field-preserved c =
    zip-next (IsCut c.args.columns) (λ field. field.now) (λ field. field.now) c.args.row.now c.loop-field.field-index _ _ c.loop-field.shown.items _ c.in_ok-cut.field-0
    c.loop-field-test.true refl c.loop-field.invariant c.in_ok-cut.ensures.cut c.in_ok-push.ensures.items

pub returns : goal.returns
returns c =
    subst (λ fields. AllZip (IsCut c.args.columns) (map (λ field. field.now) fields) (row_texts c.loop-field.shown))
    (take_all c.loop-field.field-index c.args.row.now c.loop-field-test.false) c.loop-field.invariant
