use Rattle.std.proofs.Common.{subst, ◌↔◌, IsTrue}
use Rattle.papergrid_maps.specs.Spans.{EndWithin}
use Rattle.papergrid_maps.proofs.span_table.SpanTable.end_within.Goals as goal

pub returns-in-Columns-clause-ends : goal.returns-in-Columns-clause-ends
returns-in-Columns-clause-ends c =
    let same = subst (λ d. IsTrue c.ends_within.result ↔ EndWithin d c.self.inside.columns.spans c.args.count) c.self.invariant.0 c.ends_within.ensures in
    rw (c.in-Columns.is, ← c.self.view_is) same

pub returns-in-Rows-clause-ends : goal.returns-in-Rows-clause-ends
returns-in-Rows-clause-ends c =
    let same = subst (λ d. IsTrue c.ends_within-in-Rows.result ↔ EndWithin d c.self.inside.rows.spans c.args.count) c.self.invariant.1 c.ends_within-in-Rows.ensures in
    rw (c.in-Rows.is, ← c.self.view_is) same
