use Rattle.std.proofs.Common.{◌≡◌}
use Rattle.papergrid.specs.Printed.{Prints}
use Rattle.papergrid.proofs.GridLemmas.{drawn_same}
use Rattle.papergrid.proofs.peekable.PeekableGrid.print.Goals as goal

pub returns : goal.returns
returns g c =
    let grid = c.args.self.now in
    drawn_same g.T.Cell.lines g.C.Color.AsANSIStr.texts g.C.Colors.color_at grid.config.now
    (g.D.Dimension.width_of grid.dimension.now) (g.D.Dimension.height_of grid.dimension.now)
    (λ parts d. Prints (λ other. other ≡ d) g.V.Delivery.takes g.V.Delivery.breaks c.args.writer.now c.print_sized.new.writer c.print_sized.result)
    _ _ _ _ _ _ c.shape.ensures c.cells.ensures.rows c.cells.ensures.colors c.print_sized.ensures
