use Rattle.std.proofs.Common.{◌∙◌, ap, cond, is_some, Some, sym}
use Rattle.std.specs.HashMap.{get}
use Rattle.papergrid_values.specs.MapKeys.{position_eq}
use Rattle.papergrid_values.proofs.ResultLemmas.{on_ok_map, on_err_map}
use Rattle.papergrid_tables.proofs.OverrideHistory.{put_back, set_anew, set_in_place}
use Rattle.papergrid_tables.proofs.offset_table.set_override.Goals as goal

pub returns-in-Some-clause-ok : goal.returns-in-Some-clause-ok
returns-in-Some-clause-ok g c =
    let there = sym c.in-Some.ensures.value in
    let now = c.get_mut.follows.lender c.set.new.self in
    let others = ((c.get_mut.follows.holds c.set.new.self).3 (ap is_some there)).0 in
    on_ok_map c.set.result (λ stored. set_in_place c.args.overrides.now.entries now.entries c.args.position c.args.offset c.args.value c.in-Some.stored.now c.set.new.self there stored others) c.set.ensures.ok

pub returns-in-Some-clause-err : goal.returns-in-Some-clause-err
returns-in-Some-clause-err g c =
    let there = sym c.in-Some.ensures.value in
    let now = c.get_mut.follows.lender c.set.new.self in
    let others = ((c.get_mut.follows.holds c.set.new.self).3 (ap is_some there)).0 in
    on_err_map c.set.result (λ same. put_back c.args.overrides.now.entries now.entries c.args.position c.in-Some.stored.now c.set.new.self there same others) c.set.ensures.err

pub returns-clause-ok : goal.returns-clause-ok
returns-clause-ok g c =
    on_ok_map c.write.result
    (λ updates. set_anew c.args.overrides.now.entries _ c.args.position c.args.offset c.args.value c.new-stored.result c.set-2.new.self (sym c.in_default.ensures.value) c.new-stored.ensures c.in_ok-set.ensures.ok
    (λ p. updates.0 p ∙ ap (λ m. cond (position_eq c.args.position p) (Some c.set-2.new.self) (get position_eq m p)) (c.get_mut.follows.holds-at-none)))
    c.write.ensures.ok
