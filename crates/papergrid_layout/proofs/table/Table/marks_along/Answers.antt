use Rattle.std.proofs.Common.{◌≡◌, subst}
use Rattle.papergrid_values.specs.declared.direction.Direction.TheVariants.{Columns, Rows}
use Rattle.papergrid_layout.specs.ForProofs.Placing.{AreMarks}
use Rattle.papergrid_layout.specs.Places.{total_along, track_count, track_line, track_size}
use Rattle.papergrid_layout.specs.Tables.{TableParts, view_of}
use Rattle.papergrid_layout.proofs.table.Table.marks_along.Goals as goal

pub returns-in-Columns-clause-marks : goal.returns-in-Columns-clause-marks
returns-in-Columns-clause-marks c = rw c.in-Columns.is
    (subst (λ (t : TableParts). AreMarks (track_size (view_of t) Columns) (track_line (view_of t) Columns) (track_count (view_of t) Columns) c.self.inside.marks.columns) c.self.view_is c.self.invariant.marked.wide)

pub returns-in-Columns-clause-total : goal.returns-in-Columns-clause-total
returns-in-Columns-clause-total c = rw c.in-Columns.is (subst (λ (t : TableParts). c.self.inside.totals.columns ≡ total_along (view_of t) Columns) c.self.view_is c.self.invariant.wide)

pub returns-in-Rows-clause-marks : goal.returns-in-Rows-clause-marks
returns-in-Rows-clause-marks c = rw c.in-Rows.is
    (subst (λ (t : TableParts). AreMarks (track_size (view_of t) Rows) (track_line (view_of t) Rows) (track_count (view_of t) Rows) c.self.inside.marks.rows) c.self.view_is c.self.invariant.marked.high)

pub returns-in-Rows-clause-total : goal.returns-in-Rows-clause-total
returns-in-Rows-clause-total c = rw c.in-Rows.is (subst (λ (t : TableParts). c.self.inside.totals.rows ≡ total_along (view_of t) Rows) c.self.view_is c.self.invariant.high)
