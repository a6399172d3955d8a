use Rattle.std.proofs.Common.{[], ap, arith, refl, rules, ◌++◌, ◌∷◌, ℕ, List}
use Rattle.std.specs.BTreeMap.{is_at}
use Rattle.std.specs.Map.{lookup}
use Rattle.papergrid_values.specs.MapKeys.{position_cmp}
use Rattle.papergrid_values.specs.declared.position.Position.{Position}
use Rattle.papergrid_json.specs.Documents.{AreColors, colored_at, items_at, optional_list_at}
use Rattle.papergrid_json.specs.ForProofs.Reading.{found}
use Rattle.papergrid_json.proofs.EachLemmas.{begun, colors_with, finished, goes_on, in_optional_list, refused, refused_with, unlisted}
use Rattle.papergrid_json.proofs.document.colors.Goals as goal

pub returns-in_err-index-end : goal.returns-in_err-index-end
unfolding optional_list_at
returns-in_err-index-end c =
    let here = found c.args.spot.now in
    let none = unlisted colored_at here (items_at here) (optional_list_at colored_at here) refl in
    search (rules, refused_with AreColors (optional_list_at colored_at here) _ c.in_err-index-end.field-0.0 none c.in_err-index-end.ensures)

pub loop-index-init : goal.loop-index-init
unfolding optional_list_at
loop-index-init c =
    let here = found c.args.spot.now in (
      [],
      begun colored_at here (items_at here) (optional_list_at colored_at here) refl [] _ c.in_ok-index-end.ensures refl,
      λ position. ap (lookup (is_at (position_cmp position))) c.new-colors.ensures.empty,
    )

pub returns-in_err-position : goal.returns-in_err-position
returns-in_err-position c =
    let here = found c.args.spot.now in
    let l = c.loop-index in
    let none = refused colored_at here (items_at here) (optional_list_at colored_at here) (in_optional_list here) l.invariant.0 l.index _ l.invariant.1 c.loop-index-test.true _ c.at.ensures in
    search (rules, refused_with AreColors (optional_list_at colored_at here) _ c.in_err-position.field-0.0 none c.in_err-position.ensures)

pub loop-index-preserved : goal.loop-index-preserved
loop-index-preserved c =
    let here = found c.args.spot.now in
    let l = c.loop-index in
    let done = l.invariant.0 in
    let one : Position × (List ℕ × List ℕ) = (c.in_ok-position.position, c.in_ok-position.color) in (
      done ++ one ∷ [],
      goes_on colored_at here (items_at here) (optional_list_at colored_at here) (in_optional_list here) done l.index _ l.invariant.1 c.loop-index-test.true _ c.at.ensures one _ c.in_ok-position.ensures refl,
      colors_with done one l.colors c.insert.new.self l.invariant.2 c.in_ok-insert.ensures.updates.0,
    )

pub returns : goal.returns
returns c =
    let here = found c.args.spot.now in
    let l = c.loop-index in
    (l.invariant.0, finished colored_at here (items_at here) _ (in_optional_list here) l.invariant.0 l.index _ l.invariant.1 (omega (arith, c.loop-index-test.false)), l.invariant.2)
