use Rattle.std.proofs.Common.{subst, sym}
use Rattle.papergrid.specs.Sized.{texts_at}
use Rattle.papergrid.specs.TextRows.{IsTextDrawing}
use Rattle.papergrid.proofs.GridLemmas.{held_drawing}
use Rattle.papergrid.proofs.PrintLemmas.{prints-also}
use Rattle.papergrid.proofs.iterable.IterGrid.print.Goals as goal

pub returns : goal.returns
returns g c =
    let grid = c.args.self in
    let IsDrawn = IsTextDrawing g.R.Iter.Cell.AsStr.text (g.R.Records.tells grid.records) (g.R.Records.columns grid.records) grid.config.now
    (g.D.Dimension.width_of grid.dimension.now) (g.D.Dimension.height_of grid.dimension.now) (texts_at g.C.Color.AsANSIStr.texts g.C.Colors.color_at grid.colors.now) in
    let is = held_drawing g.R.Iter.Cell.AsStr.text g.C.Color.AsANSIStr.texts g.C.Colors.color_at grid.config.now
    (g.D.Dimension.width_of grid.dimension.now) (g.D.Dimension.height_of grid.dimension.now) (g.R.Records.tells grid.records) (g.R.Records.columns grid.records)
    c.in_ok-held.held _ _ _ grid.colors.now c.in_ok-held.ensures.told c.in_ok-held.ensures.columns c.shape.ensures c.texts-texts.ensures.rows c.texts-texts.ensures.colors in
    prints-also g.V.Delivery.takes g.V.Delivery.breaks _ IsDrawn (λ d same. subst IsDrawn (sym same) is) _ _ c.print_sized.result c.print_sized.ensures
