use Rattle.papergrid_maps.proofs.BothStored.{both_reached, inside_reached}
use Rattle.papergrid_maps.proofs.span_table.SpanTable.covered_by_both.Goals as goal

pub returns : goal.returns
returns c =
    let scan = both_reached c.self.inside.both c.args.position c.reaches_inside.ensures.ordered in
    let found = inside_reached c.self.inside.columns c.self.inside.rows.spans c.self.inside.both c.self.invariant.0 c.self.invariant.4 c.args.position in
    rw (c.reaches_inside.ensures.value, ← c.self.view_is) (λ h. found.0 (scan.0 h), λ h. scan.1 (found.1 h))
