use Rattle.std.proofs.Common.{map, of_calls, rules}
use Rattle.std.specs.HashMap as hash
use Rattle.std.proofs.lemmas.Iterator.{YieldsList-from_map}
use Rattle.std.proofs.lemmas.Iterator.Adapters.{fact_from_collect}
use Rattle.std.proofs.lemmas.Iterator.Consumers.{YieldsList-at, YieldsList-from_rest}
use Rattle.std.proofs.lemmas.Result.{IfOk-weaker}
use Rattle.papergrid_values.specs.MapKeys.{position_eq}
use Rattle.papergrid_maps.specs.ForProofs.SpanIndex.{key_of}
use Rattle.papergrid_maps.proofs.IndexCopies.{by_position}
use Rattle.papergrid_maps.proofs.span_index.SpanIndex.by_position.Goals as goal

pub returns : goal.returns
returns c =
    let d = c.self.inside.direction in
    let es = c.self.inside.spans.entries in
    let made = fact_from_collect (hash.IsFromIterResult position_eq) c.collect.result c.collect.ensures.ran
    (YieldsList-from_map _ (λ e. (key_of d e.0, e.1)) (YieldsList-at c.map.ensures.source (YieldsList-from_rest es c.iter.ensures.rest)) c.map.ensures.closure (λ x r q k. search (rules, of_calls))) in
    rw (← c.self.view_is) (IfOk-weaker c.collect.result (hash.IsFromIterResult position_eq (map (λ e. (key_of d e.0, e.1)) es)) _ (λ all h. by_position d c.self.inside.spans c.self.invariant all h) made)
