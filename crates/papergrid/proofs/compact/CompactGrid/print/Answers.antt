use Rattle.std.proofs.Common.{◌∙◌, ap, subst, sym}
use Rattle.std.proofs.lemmas.Result.{err_from_is_err_and}
use Rattle.papergrid_layout.specs.Tables.{HasSizes}
use Rattle.papergrid.specs.Compact.{IsCompactDrawing}
use Rattle.papergrid.specs.Sized.{texts_at}
use Rattle.papergrid.proofs.CompactLemmas.{compact_held, refused, unwritten}
use Rattle.papergrid.proofs.PrintLemmas.{prints-also, prints-none}
use Rattle.papergrid.proofs.compact.CompactGrid.print.Goals as goal

pub returns-in_err-table : goal.returns-in_err-table
returns-in_err-table g c =
    let grid = c.args.self in
    let e = c.in_err-table.field-0.0 in
    let p = err_from_is_err_and c.from_residual.result c.from_residual.ensures.1 in
    rw (p.1, p.2) (prints-none g.V.Delivery.takes g.V.Delivery.breaks _ c.args.writer.now _
    (unwritten g.R.Iter.Cell.AsStr.text (g.R.Records.tells grid.records) (g.R.Records.columns grid.records) grid.config
    (g.D.Dimension.width_of grid.dimension.now) e c.in_err-table.ensures.fault)
    (refused g.R.Iter.Cell.AsStr.text (g.R.Records.tells grid.records) (g.R.Records.columns grid.records) grid.config
    (g.D.Dimension.width_of grid.dimension.now) (texts_at g.C.Color.AsANSIStr.texts g.C.Colors.color_at grid.colors.now) e c.in_err-table.ensures.fault))

pub print_sized-requires-clause-columns : goal.print_sized-requires-clause-columns
print_sized-requires-clause-columns g c =
    subst (λ dimension. HasSizes (g.D.Dimension.has_column dimension) c.shape.result.1) (sym c.sizes-sizes.ensures.dimension)
    (subst (HasSizes (g.D.Dimension.has_column c.args.self.dimension.now)) (sym (ap (λ s. s.1) c.shape.ensures ∙ c.in_ok-table.ensures.made.has_columns)) c.requires.columns)

pub returns : goal.returns
returns g c =
    let grid = c.args.self in
    let IsDrawn = IsCompactDrawing g.R.Iter.Cell.AsStr.text (g.R.Records.tells grid.records) (g.R.Records.columns grid.records) grid.config
    (g.D.Dimension.width_of grid.dimension.now) (texts_at g.C.Color.AsANSIStr.texts g.C.Colors.color_at grid.colors.now) in
    let is = compact_held g.R.Iter.Cell.AsStr.text (g.R.Records.tells grid.records) (g.R.Records.columns grid.records) grid.config
    (g.D.Dimension.width_of grid.dimension.now) g.C.Color.AsANSIStr.texts g.C.Colors.color_at c.in_ok-table.table _ _ _ _ _ grid.colors.now
    c.in_ok-table.ensures.made (ap g.D.Dimension.width_of c.sizes-sizes.ensures.dimension) c.sizes-sizes.ensures.height
    c.shape.ensures c.lines-lines.ensures.rows c.lines-lines.ensures.colors in
    prints-also g.V.Delivery.takes g.V.Delivery.breaks _ IsDrawn (λ d same. subst IsDrawn (sym same) is) _ _ c.print_sized.result c.print_sized.ensures
