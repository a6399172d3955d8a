use Rattle.std.proofs.Common.{◌≡◌, ◌∙◌, None, Some, ap, cond, refl, sym, arith}
use Rattle.std.specs.BTreeMap.{get as tree_get, is_at}
use Rattle.std.specs.FinMap.{get, get-insert}
use Rattle.std.specs.Map.{lookup}
use Rattle.papergrid_values.specs.MapKeys.{position_cmp}
use Rattle.papergrid_values.proofs.KeyLemmas.{position_total}
use Rattle.papergrid_maps.specs.ForProofs.SpanIndex.{extent_stored, extent_of}
use Rattle.papergrid_maps.proofs.BothStored.{alone_stored, both_stored, stored_and_dropped, not_stored}
use Rattle.papergrid_maps.proofs.span_table.hold_span.Goals as goal

pub returns-in_default-clause-both : goal.returns-in_default-clause-both
returns-in_default-clause-both c =
    let old = c.args.index.now.spans in
    let alone : get c.args.others.now.spans c.args.position ≡ None = sym c.get.ensures ∙ c.in_default.is in
    rw c.in_ok-insert.ensures.ok
    (alone_stored c.args.index.now.direction (get old) _ (get c.args.others.now.spans) (tree_get position_cmp c.args.both.now) (tree_get position_cmp c.args.both.now)
    c.args.position c.requires c.args.span (get-insert position_total old c.args.position c.args.span) (λ p. refl) alone)

pub returns-in-Ok-clause-both : goal.returns-in-Ok-clause-both
returns-in-Ok-clause-both c =
    let old = c.args.index.now.spans in
    rw c.in_ok-insert.ensures.ok
    (both_stored c.args.index.now.direction (get old) _ (get c.args.others.now.spans) (tree_get position_cmp c.args.both.now) (tree_get position_cmp c.insert-2.new.self)
    c.args.position c.requires c.args.span c.in-Some.other (get-insert position_total old c.args.position c.args.span)
    (λ p. c.in-Ok.ensures.updates.0 p ∙ ap (λ e. cond (is_at (position_cmp c.args.position) p) (Some e) (tree_get position_cmp c.args.both.now p))
    (c.extent_of.ensures ∙ ap (λ d. extent_of d c.args.span c.in-Some.other) (c.direction.ensures ∙ ap (λ s. s.direction) c.in_ok-insert.ensures.ok)))
    (sym c.get.ensures ∙ c.in-Some.is))

pub returns-in-Err-clause-err : goal.returns-in-Err-clause-err
returns-in-Err-clause-err c = grind (arith, not_stored, stored_and_dropped)

pub returns-in-Err-clause-both : goal.returns-in-Err-clause-both
returns-in-Err-clause-both c =
    λ p. ap (lookup (is_at (position_cmp p))) c.in-Err.ensures.err ∙ c.requires p
    ∙ ap (λ s. extent_stored s.direction (get s.spans p) (get c.args.others.now.spans p)) (sym (returns-in-Err-clause-err c))
