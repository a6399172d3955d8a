use Rattle.std.proofs.Common.{arith}
use Rattle.std.proofs.lemmas.Result.{IfOk-weaker}
use Rattle.papergrid_maps.proofs.AnchorLemmas.{entries-at, rising-entries}
use Rattle.papergrid_maps.proofs.span_index.SpanIndex.anchors.Goals as goal

pub returns-clause-spans : goal.returns-clause-spans
returns-clause-spans c = rw (← c.self.view_is)
    (IfOk-weaker c.anchors_along.result _ _ (λ anchors is. rw is (entries-at c.self.inside.direction c.self.inside.spans c.self.invariant c.args.others.now.spans)) c.anchors_along.ensures)

pub returns-clause-sorted : goal.returns-clause-sorted
returns-clause-sorted c = grind (arith, rising-entries)
