use Rattle.papergrid_maps.specs.ForProofs.SpanIndex.{key_of}
use Rattle.papergrid_maps.proofs.IndexReached.{index_reached, key_reached}
use Rattle.papergrid_maps.proofs.span_index.SpanIndex.reaches.Goals as goal

pub returns : goal.returns
returns c =
    let d = c.self.inside.direction in
    let scan = key_reached c.self.inside.spans (key_of d c.args.position) c.self.invariant in
    let found = index_reached c.self.inside.spans d c.args.position in
    rw (c.reaches_key.ensures, c.key_of.ensures, ← c.self.view_is) (λ h. found.0 (scan.0 h), λ h. scan.1 (found.1 h))
