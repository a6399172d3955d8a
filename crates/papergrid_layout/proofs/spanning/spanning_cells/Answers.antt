use Rattle.std.proofs.Common.{◌≡◌, ◌∙◌, ◌<◌, Some, ap, arith, length, refl, subst, sym}
use Rattle.std.specs.Prelude.{slice_get}
use Rattle.std.proofs.lemmas.Option.{slice_get-get_or}
use Rattle.papergrid_maps.specs.Hidden.{AreAnchorsOf}
use Rattle.papergrid_walk.specs.ForProofs.Shown.{Shows}
use Rattle.papergrid_layout.proofs.SpanningLemmas.{HasSpanned}
use Rattle.papergrid_layout.proofs.SpanningLemmas.{all-spanned, spanned-none, spanned-step}
use Rattle.papergrid_layout.proofs.spanning.spanning_cells.Goals as goal

pub loop-i-init : goal.loop-i-init
loop-i-init g c = λ table same marked fit.
    let walk = c.in_ok-sweep_of.field-0 in
    spanned-none table c.in_ok-anchors.anchors.items c.in_ok-anchors.ensures.sorted walk (record { sweep = walk; reach = 0; cells = c.new.result })
    (subst (λ grid. Shows grid walk 0 0) (sym same) c.in_ok-sweep_of.ensures) refl c.new.ensures.items

pub visit-requires : goal.visit-requires
visit-requires g c = grind (arith, slice_get-get_or)

pub loop-i-preserved : goal.loop-i-preserved
loop-i-preserved g c = λ table same marked fit.
    let anchors = c.in_ok-anchors.anchors.items in
    let within : c.loop-i.i < length anchors = omega (arith, c.len-i-end.ensures, c.loop-i-test.true) in
    let at : slice_get anchors c.loop-i.i ≡ Some c.index.result.now = slice_get-get_or anchors c.loop-i.i c.index.result.now within ∙ ap Some (sym c.index.ensures) in
    let has = c.loop-i.invariant table same marked fit in
    let shows = has.shows c.loop-i.i c.index.result.now (omega arith) at in
    spanned-step table anchors c.in_ok-anchors.ensures.sorted c.loop-i.i c.index.result.now c.loop-i.found c.visit.new.self at fit
    (c.in_ok-visit.ensures.step table marked shows) (c.in_ok-visit.ensures.later table shows) has

pub returns : goal.returns
returns g c = λ table same marked fit.
    let anchors = c.in_ok-anchors.anchors.items in
    let last : c.loop-i.i ≡ length anchors = omega (arith, c.len-i-end.ensures, c.loop-i-test.false) in
    all-spanned table anchors c.in_ok-anchors.ensures.sorted c.loop-i.found (subst (λ grid. AreAnchorsOf grid anchors) (sym same) c.in_ok-anchors.ensures.shows)
    (subst (λ i. HasSpanned table anchors i c.loop-i.found) last (c.loop-i.invariant table same marked fit))
