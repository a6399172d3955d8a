use Rattle.std.proofs.Common.{◌∙◌, rules, sym}
use Rattle.std.proofs.lemmas.Bool.{true≢false}
use Rattle.std.proofs.lemmas.Fn.{dedup_same}
use Rattle.std.proofs.lemmas.List.Sorted.{answers_always}
use Rattle.papergrid_maps.proofs.AnchorLemmas.{alone-at, anchors-stored, anchors-of, joined-at, rising-dedup, same_position, sorted-from_rising}
use Rattle.papergrid_maps.proofs.anchors.anchors_of.Goals as goal

pub returns-then-not-holds_any : goal.returns-then-not-holds_any
returns-then-not-holds_any c =
    let at = alone-at c.args.columns.now c.args.rows.now c.requires.columns _ c.in_ok-anchors.ensures.spans (λ stored. true≢false (sym (c.holds_any.ensures.1 stored) ∙ c.if-not-holds_any.true)) in
    record {
      sorted = sorted-from_rising _ (c.in_ok-anchors.ensures.sorted c.requires.columns);
      spans = anchors-of c.args.columns.now.spans c.args.rows.now.spans _ at;
      stored = anchors-stored c.args.columns.now.spans c.args.rows.now.spans _ at;
    }

pub returns : goal.returns
returns c =
    let kept = dedup_same _ same_position _ (λ x y b f' x' y' k. search rules) _ _ c.dedup_by_key.ensures.filtered in
    let moved = rw c.in_ok-append.ensures.items at c.sort_by_key.ensures.permutation in
    let at = joined-at c.args.columns.now c.args.rows.now c.requires.columns _ _ _ c.requires.rows c.in_ok-anchors.ensures.spans c.in_ok-others.ensures.spans moved in
    record {
      sorted = rw kept (sorted-from_rising _ (rising-dedup _ (c.in_ok-sort_by_key.ensures.sorted (λ a. a.position) (answers_always _ _ _ (λ f a r g h. search rules)))));
      spans = rw kept (anchors-of c.args.columns.now.spans c.args.rows.now.spans _ at);
      stored = rw kept (anchors-stored c.args.columns.now.spans c.args.rows.now.spans _ at);
    }
