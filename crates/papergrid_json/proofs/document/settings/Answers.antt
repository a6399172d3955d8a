use Rattle.std.proofs.Common.{arith, refl, rules}
use Rattle.papergrid_json.specs.Documents.{IsFirstUnknown, accepted_at, items_at, optional_list_at}
use Rattle.papergrid_json.specs.ForProofs.Reading.{AreItems, found}
use Rattle.papergrid_json.proofs.EachLemmas.{begun, finished, goes_on, in_optional_list, refused, refused_beside, refused_or, unlisted}
use Rattle.papergrid_json.proofs.UnknownLemmas.{accepted_more, first_unknown}
use Rattle.papergrid_json.proofs.document.settings.Goals as goal

pub returns-in_err-index-end : goal.returns-in_err-index-end
unfolding optional_list_at
returns-in_err-index-end c =
    let here = found c.args.spot.now in
    let none = unlisted accepted_at here (items_at here) (optional_list_at accepted_at here) refl in
    search (rules, refused_beside (IsFirstUnknown here) AreItems (optional_list_at accepted_at here) _ c.in_err-index-end.field-0.0 none c.in_err-index-end.ensures)

pub loop-index-init : goal.loop-index-init
unfolding optional_list_at
loop-index-init c =
    let here = found c.args.spot.now in
    (begun accepted_at here (items_at here) (optional_list_at accepted_at here) refl _ _ c.in_ok-index-end.ensures c.new-settings.ensures.items, λ k less. absurd (omega (arith, less)))

pub returns-in_err-accepted : goal.returns-in_err-accepted
returns-in_err-accepted c =
    let here = found c.args.spot.now in
    let l = c.loop-index in
    let none = refused accepted_at here (items_at here) (optional_list_at accepted_at here) (in_optional_list here) l.settings.items l.index _ l.invariant.0 c.loop-index-test.true _ c.at.ensures in
    let unknown = first_unknown here _ l.index c.at.ensures l.invariant.1 in
    search (rules, refused_or _ (IsFirstUnknown here) AreItems (optional_list_at accepted_at here) _ c.in_err-accepted.field-0.0 none unknown c.in_err-accepted.ensures.read)

pub loop-index-preserved : goal.loop-index-preserved
loop-index-preserved c =
    let here = found c.args.spot.now in
    let l = c.loop-index in (
      goes_on accepted_at here (items_at here) (optional_list_at accepted_at here) (in_optional_list here) l.settings.items l.index _ l.invariant.0 c.loop-index-test.true _ c.at.ensures _ _
          c.in_ok-accepted.ensures.read c.in_ok-push.ensures.items,
      accepted_more here _ l.index c.at.ensures l.invariant.1 _ c.in_ok-accepted.ensures.read,
    )

pub returns : goal.returns
returns c =
    let here = found c.args.spot.now in
    let l = c.loop-index in
    (l.settings.items, finished accepted_at here (items_at here) _ (in_optional_list here) l.settings.items l.index _ l.invariant.0 (omega (arith, c.loop-index-test.false)), refl)
