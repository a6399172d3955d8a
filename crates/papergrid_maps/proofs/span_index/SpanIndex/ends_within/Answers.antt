use Rattle.papergrid_maps.proofs.IndexEnds.{entries_end_within}
use Rattle.papergrid_maps.proofs.span_index.SpanIndex.ends_within.Goals as goal

pub returns : goal.returns
returns c =
    let ends = entries_end_within c.self.inside.direction c.self.inside.spans c.args.count c.self.invariant in
    rw (c.entries_end_within.ensures, ← c.self.view_is) ends
