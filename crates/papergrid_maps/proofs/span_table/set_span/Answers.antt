use Rattle.std.proofs.Common.{arith, ap}
use Rattle.std.specs.BTreeMap.{get as tree_get}
use Rattle.std.specs.FinMap.{get, get-remove}
use Rattle.papergrid_values.specs.MapKeys.{position_cmp}
use Rattle.papergrid_values.proofs.KeyLemmas.{position_total}
use Rattle.papergrid_values.proofs.ResultLemmas.{on_err_map, on_ok_map}
use Rattle.papergrid_maps.proofs.BothStored.{both_dropped}
use Rattle.papergrid_maps.proofs.SpanHistory.{stored_set, kept_either_way, kept_from_two, removed_set}
use Rattle.papergrid_maps.proofs.span_table.set_span.Goals as goal

pub returns-in-1-clause-ok : goal.returns-in-1-clause-ok
returns-in-1-clause-ok c = rw (c.remove.ensures, c.in-1.is) (removed_set c.args.index.now.spans c.args.position)

pub returns-in-1-clause-from_two : goal.returns-in-1-clause-from_two
returns-in-1-clause-from_two c = kept_from_two c.args.position c.args.span c.args.index.now.spans c.remove.new.self.spans (returns-in-1-clause-ok c)

pub returns-in-1-clause-both : goal.returns-in-1-clause-both
returns-in-1-clause-both c =
    let old = c.args.index.now.spans in
    rw c.remove.ensures
    (both_dropped c.args.index.now.direction (get old) _ (get c.args.others.now.spans) (tree_get position_cmp c.args.both.now) (tree_get position_cmp c.remove-in-1.new.self)
    c.args.position c.requires (get-remove position_total old c.args.position) c.remove-in-1.ensures.updates.0)

pub returns-in_default-clause-ok : goal.returns-in_default-clause-ok
returns-in_default-clause-ok c = grind (arith, on_ok_map, stored_set)

pub returns-in_default-clause-from_two : goal.returns-in_default-clause-from_two
returns-in_default-clause-from_two c =
    kept_either_way c.hold_span.result c.args.position c.args.span c.args.index.now.spans c.hold_span.new.index.spans (returns-in_default-clause-ok c)
    (on_err_map c.hold_span.result (λ same. ap (λ s. s.spans) same) c.hold_span.ensures.err)
