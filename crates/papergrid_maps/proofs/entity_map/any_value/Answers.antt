use Rattle.std.proofs.Common.{true, false, refl}
use Rattle.std.specs.Fn.{FnReturnsAt}
use Rattle.std.specs.Map.Iter.{deref}
use Rattle.papergrid_maps.proofs.AnyStored.{passed_more, passed_all, found_at}
use Rattle.papergrid_maps.proofs.entity_map.any_value.Goals as goal

pub loop-value-preserved : goal.loop-value-preserved
loop-value-preserved g c =
    let failed : FnReturnsAt g.F.Fn c.args.f.now c.in-Some.value.now false = record { shown = c.in-Some.value; shows = refl; says = record { met = c.if-f.ensures } } in
    passed_more deref _ _ c.in-Some.value _ _ _ c.in-Some.ensures.steps failed c.loop-value.invariant

pub returns-clause-no : goal.returns-clause-no
returns-clause-no g c = passed_all _ _ _ _ c.in-None.ensures.steps.0 c.loop-value.invariant

pub returns-then-f-clause-yes : goal.returns-then-f-clause-yes
returns-then-f-clause-yes g c =
    let found : FnReturnsAt g.F.Fn c.args.f.now c.in-Some.value.now true = record { shown = c.in-Some.value; shows = refl; says = record { met = c.if-f.ensures } } in
    found_at deref _ _ c.in-Some.value _ _ _ c.in-Some.ensures.steps found c.loop-value.invariant.split
