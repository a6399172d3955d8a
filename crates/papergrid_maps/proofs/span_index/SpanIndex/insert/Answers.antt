use Rattle.std.proofs.Common.{◌∙◌, Some, ap, cond, refl, arith}
use Rattle.std.specs.BTreeMap.{get as tree_get, is_at}
use Rattle.papergrid_values.specs.MapKeys.{position_cmp}
use Rattle.papergrid_values.proofs.ResultLemmas.{on_err}
use Rattle.papergrid_maps.proofs.IndexKeys.{stored_at, stored_insert}
use Rattle.papergrid_maps.proofs.span_index.SpanIndex.insert.Goals as goal

pub returns-in_err-insert-clause-absent : goal.returns-in_err-insert-clause-absent
returns-in_err-insert-clause-absent c = grind (arith, on_err, stored_at)

pub returns-clause-ok : goal.returns-clause-ok
returns-clause-ok c =
    let d = c.self.inside.direction in
    rw (← c.self.view_is) (λ i. record {
      direction = d;
      spans =
          stored_insert d c.self.inside.spans.entries c.insert.new.self.entries c.args.position (Some c.args.span)
          (λ q. c.in_ok-insert.ensures.updates.0 q ∙ ap (λ k. cond (is_at (position_cmp k) q) (Some c.args.span) (tree_get position_cmp c.self.inside.spans q)) c.key_of.ensures)
          c.args.span refl i;
    })
