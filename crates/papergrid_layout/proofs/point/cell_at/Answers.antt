use Rattle.std.proofs.Common.{sym}
use Rattle.papergrid_values.specs.declared.direction.Direction.TheVariants.{Columns, Rows}
use Rattle.papergrid_layout.specs.Places.{table_by}
use Rattle.papergrid_layout.proofs.PointLemmas.{none-beside, none-beyond, none-but-visible, one-tested, over-within}
use Rattle.papergrid_layout.proofs.point.cell_at.Goals as goal

pub returns-in_err-track_around : goal.returns-in_err-track_around
returns-in_err-track_around g c =
    let table = table_by c.args.config.now (g.D.Dimension.width_of c.args.dimension.now) (g.D.Dimension.height_of c.args.dimension.now) c.args.shape in
    rw c.from_residual.ensures (λ p over. none-beyond table c.args.column c.args.line (c.in_err-track_around.ensures (over.placed.fit Rows)) p over)

pub returns-in_err-track_around-2 : goal.returns-in_err-track_around-2
returns-in_err-track_around-2 g c =
    let table = table_by c.args.config.now (g.D.Dimension.width_of c.args.dimension.now) (g.D.Dimension.height_of c.args.dimension.now) c.args.shape in
    rw c.from_residual-in_err-track_around-2.ensures (λ p over. none-beside table c.args.column c.args.line (c.in_err-track_around-2.ensures (over.placed.fit Columns)) p over)

pub is_under-requires-clause-reach : goal.is_under-requires-clause-reach
is_under-requires-clause-reach g c =
    over-within (table_by c.args.config.now (g.D.Dimension.width_of c.args.dimension.now) (g.D.Dimension.height_of c.args.dimension.now) c.args.shape) c.args.column c.args.line _ _
    c.in_ok-track_around.ensures.1 c.in_ok-track_around-2.ensures.1

pub returns-then-is_visible : goal.returns-then-is_visible
returns-then-is_visible g c =
    let table = table_by c.args.config.now (g.D.Dimension.width_of c.args.dimension.now) (g.D.Dimension.height_of c.args.dimension.now) c.args.shape in
    rw c.then_some.ensures
    (one-tested table c.args.column c.args.line (record { row = c.in_ok-track_around.field-0; col = c.in_ok-track_around-2.field-0 }) c.is_under.result c.is_under.ensures
    (λ q over. none-but-visible c.args.config.now (record { row = c.in_ok-track_around.field-0; col = c.in_ok-track_around-2.field-0 }) q (sym c.if-is_visible.ensures)
    (over-within table c.args.column c.args.line _ _ c.in_ok-track_around.ensures.1 c.in_ok-track_around-2.ensures.1 q over)))

pub first-requires-clause-reach : goal.first-requires-clause-reach
first-requires-clause-reach g c =
    over-within (table_by c.args.config.now (g.D.Dimension.width_of c.args.dimension.now) (g.D.Dimension.height_of c.args.dimension.now) c.args.shape) c.args.column c.args.line _ _
    c.in_ok-track_around.ensures.1 c.in_ok-track_around-2.ensures.1
