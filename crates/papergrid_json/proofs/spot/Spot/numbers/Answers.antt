use Rattle.std.proofs.Common.{arith, refl, rules, sym}
use Rattle.std.specs.Prelude.{option_and_then}
use Rattle.serde_json.specs.Find.{as_array}
use Rattle.papergrid_json.specs.ForProofs.Reading.{AreItems, found}
use Rattle.papergrid_json.specs.Spots.{list_at, number_at}
use Rattle.papergrid_json.proofs.EachLemmas.{begun, finished, goes_on, in_list, refused, refused_with, unlisted}
use Rattle.papergrid_json.proofs.spot.Spot.numbers.Goals as goal

pub returns-in_default : goal.returns-in_default
unfolding list_at
returns-in_default c =
    let here = found c.args.self.now in
    search (rules, unlisted number_at here (option_and_then as_array here) (list_at number_at here) refl (sym c.in_default.ensures))

pub loop-index-init : goal.loop-index-init
unfolding list_at
loop-index-init c =
    let here = found c.args.self.now in
    begun number_at here (option_and_then as_array here) (list_at number_at here) refl _ _ (sym c.in-Some.ensures) c.in_ok-numbers.ensures.items

pub returns-in_err-number : goal.returns-in_err-number
returns-in_err-number c =
    let here = found c.args.self.now in
    let l = c.loop-index in
    let none = refused number_at here (option_and_then as_array here) (list_at number_at here) (in_list here) l.numbers.items l.index _ l.invariant c.loop-index-test.true _ c.at.ensures in
    search (rules, refused_with AreItems (list_at number_at here) _ c.in_err-number.field-0.0 none c.in_err-number.ensures)

pub loop-index-preserved : goal.loop-index-preserved
loop-index-preserved c =
    let here = found c.args.self.now in
    let l = c.loop-index in
    goes_on number_at here (option_and_then as_array here) (list_at number_at here) (in_list here) l.numbers.items l.index _ l.invariant c.loop-index-test.true _ c.at.ensures _ _
    c.in_ok-number.ensures c.in_ok-push.ensures.items

pub returns : goal.returns
returns c =
    let here = found c.args.self.now in
    let l = c.loop-index in
    (l.numbers.items, finished number_at here (option_and_then as_array here) _ (in_list here) l.numbers.items l.index _ l.invariant (omega (arith, c.loop-index-test.false)), refl)
