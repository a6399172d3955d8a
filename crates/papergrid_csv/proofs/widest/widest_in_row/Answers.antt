use Rattle.std.proofs.Common.{All, map, refl, subst}
use Rattle.std.proofs.lemmas.List.{take_all}
use Rattle.papergrid_csv.specs.ForProofs.Cuts.{HasLinesWithin}
use Rattle.papergrid_csv.proofs.WidestLemmas.{all-next, text-grows}
use Rattle.papergrid_csv.proofs.widest.widest_in_row.Goals as goal

pub loop-field-preserved : goal.loop-field-preserved
loop-field-preserved c =
    all-next HasLinesWithin text-grows (λ field. field.now) c.args.row.now c.loop-field.field-index _ _
    c.loop-field.widest c.widest_in_text.result c.max-widest.result c.loop-field-test.true refl c.loop-field.invariant c.widest_in_text.ensures c.max-widest.ensures

pub returns : goal.returns
returns c =
    subst (λ fields. All (HasLinesWithin c.loop-field.widest) (map (λ field. field.now) fields)) (take_all c.loop-field.field-index c.args.row.now c.loop-field-test.false) c.loop-field.invariant
