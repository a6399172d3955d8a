use Rattle.std.proofs.Common.{◌<◌}
use Rattle.papergrid_values.specs.declared.position.Position.{Position}
use Rattle.papergrid_layout.specs.Places.{StandsOver, table_by}
use Rattle.papergrid_layout.proofs.point.Point.first.Given as goal

abbrev pub invariant-loop-row : goal.invariant-loop-row
invariant-loop-row g l = (q : Position) → q.row < l.row →
    StandsOver (table_by l.self.config.now (g.D.Dimension.width_of l.self.dimension.now) (g.D.Dimension.height_of l.self.dimension.now) l.self.shape) l.self.column l.self.line q → ⊥
