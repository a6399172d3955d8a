use Rattle.std.proofs.Common.{◌≡◌, arith, inl, inr, subst, sym}
use Rattle.papergrid_values.specs.declared.direction.Direction.TheVariants.{Columns, Rows}
use Rattle.std.proofs.lemmas.Result.{err_from_is_err_and}
use Rattle.papergrid_layout.specs.Tables.{IsTotalTooLarge, TableParts}
use Rattle.papergrid_draw.specs.Drawings.{drawn_of, layout_of}
use Rattle.papergrid_draw.proofs.PictureLemmas.{no-write}
use Rattle.papergrid.specs.Printed.{Prints}
use Rattle.papergrid.specs.Sized.{parts_of}
use Rattle.papergrid.proofs.PrintLemmas.{prints-none, prints-so, sizes-refused}
use Rattle.papergrid.proofs.printer.print_sized.Goals as goal

pub returns-in_err-table : goal.returns-in_err-table
returns-in_err-table g c =
    let parts = parts_of c.args.config.now (g.D.Dimension.width_of c.args.dimension.now) (g.D.Dimension.height_of c.args.dimension.now) c.args.shape in
    let p = err_from_is_err_and c.from_residual.result c.from_residual.ensures.1 in
    let e = c.in_err-table.field-0.0 in
    rw (p.1, p.2) (prints-none g.V.Delivery.takes g.V.Delivery.breaks _ c.args.writer.now _ (no-write e)
    (sizes-refused g.S.Cells.lines g.S.Cells.color parts c.args.cells.now e c.in_err-table.ensures))

pub returns : goal.returns
returns g c =
    let parts = parts_of c.args.config.now (g.D.Dimension.width_of c.args.dimension.now) (g.D.Dimension.height_of c.args.dimension.now) c.args.shape in
    let drawing = λ (t : TableParts). drawn_of g.S.Cells.lines g.S.Cells.color t c.args.cells.now in
    subst (λ (t : TableParts). Prints (λ d. d ≡ drawing t) g.V.Delivery.takes g.V.Delivery.breaks c.args.writer.now c.draw_by.new.writer c.draw_by.result) c.in_ok-table.ensures.0
    (prints-so g.V.Delivery.takes g.V.Delivery.breaks (drawing c.in_ok-table.table)
    (subst (λ (t : TableParts). IsTotalTooLarge (layout_of (drawing t)) → ⊥) (sym c.in_ok-table.ensures.0) (λ large. elim large [
      | inl wide ↦ (let fits = c.in_ok-table.ensures.1 Columns in omega (arith, wide, fits))
      | inr high ↦ (let fits = c.in_ok-table.ensures.1 Rows in omega (arith, high, fits))
    ]))
    _ _ c.draw_by.result c.draw_by.ensures)
