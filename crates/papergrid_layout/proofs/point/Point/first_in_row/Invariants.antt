use Rattle.std.proofs.Common.{◌≡◌, ◌<◌}
use Rattle.papergrid_values.specs.declared.position.Position.{Position}
use Rattle.papergrid_layout.specs.Places.{StandsOver, table_by}
use Rattle.papergrid_layout.proofs.point.Point.first_in_row.Given as goal

abbrev pub invariant-loop-col : goal.invariant-loop-col
invariant-loop-col g l = (q : Position) → q.row ≡ l.row → q.col < l.col →
    StandsOver (table_by l.self.config.now (g.D.Dimension.width_of l.self.dimension.now) (g.D.Dimension.height_of l.self.dimension.now) l.self.shape) l.self.column l.self.line q → ⊥
