use Rattle.std.proofs.Common.{subst, sym, arith}
use Rattle.papergrid_layout.specs.Places.{IsFirstOver}
use Rattle.papergrid_layout.specs.ForProofs.Points.{LiesInEach}
use Rattle.papergrid_layout.specs.Tables.{TableParts, view_of}
use Rattle.papergrid_layout.proofs.PointLemmas.{none-but-visible, one-tested}
use Rattle.papergrid_layout.proofs.SpanningLemmas.{cover-in-row, first-over}
use Rattle.papergrid_layout.proofs.table.Table.cell_at.Goals as goal

pub returns-then-is_visible : goal.returns-then-is_visible
returns-then-is_visible c = grind (arith, one-tested, none-but-visible)

pub first_covering-requires : goal.first_covering-requires
first_covering-requires c =
    let table = view_of (record { config = c.self.inside.config.now; widths = c.self.inside.sizes.columns.items; heights = c.self.inside.sizes.rows.items }) in
    let lies = subst (λ (t : TableParts). LiesInEach (view_of t) c.args.column c.args.line c.in_ok-within.within) (sym c.self.view_is) c.in_ok-within.ensures in
    let spanning = c.self.invariant.spanning in (
      table,
      rw c.deref.ensures.value spanning.are,
      rw c.deref.ensures.value
          (cover-in-row table c.args.column c.args.line c.self.inside.spanning.items c.in_ok-within.within spanning c.if-is_visible.ensures lies),
    )

pub returns : goal.returns
returns c =
    let table = view_of (record { config = c.self.inside.config.now; widths = c.self.inside.sizes.columns.items; heights = c.self.inside.sizes.rows.items }) in
    let lies = subst (λ (t : TableParts). LiesInEach (view_of t) c.args.column c.args.line c.in_ok-within.within) (sym c.self.view_is) c.in_ok-within.ensures in
    let first = rw c.deref.ensures.value at c.first_covering.ensures in
    subst (λ (t : TableParts). IsFirstOver (view_of t) c.args.column c.args.line c.first_covering.result) c.self.view_is
    (first-over table c.args.column c.args.line c.self.inside.spanning.items c.in_ok-within.within c.self.invariant.spanning c.if-is_visible.ensures lies c.first_covering.result first)
