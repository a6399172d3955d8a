use Rattle.std.proofs.Common.{None, arith, inl, inr, subst}
use Rattle.papergrid_values.specs.declared.direction.Direction.TheVariants.{Columns, Rows}
use Rattle.papergrid_layout.specs.Places.{IsFirstOver, track_count, track_line, track_size}
use Rattle.papergrid_layout.specs.ForProofs.Points.{LiesInEach}
use Rattle.papergrid_layout.specs.Tables.{TableParts, view_of}
use Rattle.papergrid_layout.proofs.PointLemmas.{none-beside, none-beyond, over-within}
use Rattle.papergrid_layout.proofs.TableLemmas.{none-past}
use Rattle.papergrid_layout.proofs.table.Table.position_around.Goals as goal
use Rattle.papergrid_layout.proofs.table.Table.position_around.Goals.{then-column-self-via-then-column-self, then-column-self-via-else-column-self+then-line-self}

pub returns-then-column-self : goal.returns-then-column-self
returns-then-column-self c =
    let table = view_of (record { config = c.self.inside.config.now; widths = c.self.inside.sizes.columns.items; heights = c.self.inside.sizes.rows.items }) in
    let kept = c.self.invariant in
    subst (λ (t : TableParts). IsFirstOver (view_of t) c.args.column c.args.line None) c.self.view_is
    (none-past table kept.fit c.args.column c.args.line (elim c.then-column-self.branch [
      | then-column-self-via-then-column-self w ↦ inl (omega (arith, kept.wide, w.if-column-self.true))
      | then-column-self-via-else-column-self+then-line-self w ↦ inr (omega (arith, kept.high, w.if-line-self.true))
    ]))

pub returns-in_err-track_before : goal.returns-in_err-track_before
returns-in_err-track_before c =
    let table = view_of (record { config = c.self.inside.config.now; widths = c.self.inside.sizes.columns.items; heights = c.self.inside.sizes.rows.items }) in
    let kept = c.self.invariant in
    rw c.from_residual.ensures
    (subst (λ (t : TableParts). IsFirstOver (view_of t) c.args.column c.args.line None) c.self.view_is
    (none-beyond table c.args.column c.args.line
    (inl (c.in_err-track_before.ensures (track_size table Rows) (track_line table Rows) (track_count table Rows) kept.marked.high (omega (arith, kept.high, c.if-line-self.false))))))

pub returns-in_err-track_before-2 : goal.returns-in_err-track_before-2
returns-in_err-track_before-2 c =
    let table = view_of (record { config = c.self.inside.config.now; widths = c.self.inside.sizes.columns.items; heights = c.self.inside.sizes.rows.items }) in
    let kept = c.self.invariant in
    rw c.from_residual-in_err-track_before-2.ensures
    (subst (λ (t : TableParts). IsFirstOver (view_of t) c.args.column c.args.line None) c.self.view_is
    (none-beside table c.args.column c.args.line
    (inl (c.in_err-track_before-2.ensures (track_size table Columns) (track_line table Columns) (track_count table Columns) kept.marked.wide (omega (arith, kept.wide, c.if-column-self.false))))))

pub returns : goal.returns
returns c =
    let table = view_of (record { config = c.self.inside.config.now; widths = c.self.inside.sizes.columns.items; heights = c.self.inside.sizes.rows.items }) in
    let kept = c.self.invariant in
    let down = c.in_ok-track_before.ensures (track_size table Rows) (track_line table Rows) (track_count table Rows) kept.marked.high (omega (arith, kept.high, c.if-line-self.false)) in
    let across = c.in_ok-track_before-2.ensures (track_size table Columns) (track_line table Columns) (track_count table Columns) kept.marked.wide (omega (arith, kept.wide, c.if-column-self.false)) in
    subst (λ (t : TableParts). LiesInEach (view_of t) c.args.column c.args.line (record { row = c.in_ok-track_before.field-0; col = c.in_ok-track_before-2.field-0 })) c.self.view_is
    (over-within table c.args.column c.args.line c.in_ok-track_before.field-0 c.in_ok-track_before-2.field-0 down across)
