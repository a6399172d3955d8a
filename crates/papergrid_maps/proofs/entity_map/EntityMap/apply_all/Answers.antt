use Rattle.std.proofs.Common.{◌≡◌, Some, false, subst, sym, ◌∙◌}
use Rattle.std.specs.List.{slice_get}
use Rattle.std.proofs.lemmas.List.{nil_from_length}
use Rattle.std.proofs.lemmas.Option.{slice_get_within}
use Rattle.papergrid_maps.specs.MapCalls.{HasEqualClones, may_grow}
use Rattle.papergrid_maps.specs.StoredMap.{AppendsCalls}
use Rattle.papergrid_maps.proofs.Applied.{all_told, applied_more, holds_at, next_call, next_fits, told_so_far, true_from}
use Rattle.papergrid_maps.proofs.MapHistory.{appends_more}
use Rattle.papergrid_maps.proofs.entity_map.EntityMap.apply_all.Goals as goal

pub loop-call-preserved : goal.loop-call-preserved
loop-call-preserved g c = applied_more c.in-Some.call c.in-Some.ensures.steps.0 (appends_more _ _ c.loop-call.invariant.told c.in-Ok.ensures.ok) c.loop-call.invariant

pub overflow_add-done : goal.overflow_add-done
overflow_add-done g c = next_fits c.args.calls.items c.loop-call.done c.args.calls.len c.args.calls.cap c.in-Some.call
    (next_call c.in-Some.call c.in-Some.ensures.steps.0 c.into_iter-call-iterator.ensures.into_iter_gives.0 c.loop-call.invariant)
    c.args.calls.ok.0 c.args.calls.ok.1 c.args.calls.small

pub returns-clause-ok : goal.returns-clause-ok
returns-clause-ok g c =
    let none = nil_from_length _ (sym c.loop-call.call-iterator.rest.ok.0 ∙ c.in-None.ensures.steps.0) in
    subst (AppendsCalls _ _) c.into_iter-call-iterator.ensures.into_iter_gives.0 (all_told none c.loop-call.invariant)

pub returns-in-Err-clause-err : goal.returns-in-Err-clause-err
returns-in-Err-clause-err g c = rw (c.in-Err.ensures.err, ← c.into_iter-call-iterator.ensures.into_iter_gives.0) (told_so_far c.loop-call.invariant)

-- the call that failed is the one after those done
failed : (g : _) (c : goal.After-drop-call-iterator g) → slice_get c.args.calls.items c.loop-call.done ≡ Some c.in-Some.call
failed g c = next_call c.in-Some.call c.in-Some.ensures.steps.0 c.into_iter-call-iterator.ensures.into_iter_gives.0 c.loop-call.invariant

pub returns-in-Err-clause-refused : goal.returns-in-Err-clause-refused
returns-in-Err-clause-refused g c = slice_get_within _ _ c.in-Some.call (failed g c)

pub returns-in-Err-clause-blamed : goal.returns-in-Err-clause-blamed
returns-in-Err-clause-blamed g c = rw (failed g c) (true_from _ c.in-Err.ensures.free)

pub returns-in-Err-clause-free : goal.returns-in-Err-clause-free
returns-in-Err-clause-free g c = λ none_grow. c.in-Err.ensures.free (holds_at (λ call. may_grow call ≡ false) _ _ _ (failed g c) none_grow)

pub apply-requires : goal.apply-requires
apply-requires g c = record {
  equal_clones = holds_at (HasEqualClones g.T.Clone.is_clone) _ _ _ (next_call c.in-Some.call c.in-Some.ensures.steps.0 c.into_iter-call-iterator.ensures.into_iter_gives.0 c.loop-call.invariant) c.requires.equal_clones;
}
