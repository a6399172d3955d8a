use Rattle.std.proofs.Common.{◌≡◌, length}
use Rattle.papergrid_walk.specs.Cells.{placed_row}
use Rattle.papergrid_walk.proofs.visitor.walk_row.Given as goal

abbrev pub invariant-loop-cell : goal.invariant-loop-cell
invariant-loop-cell g l =
    (goal.iterator-loop-cell g).can_next l.cell-iterator ×
    (goal.iterator-loop-cell g).is_finite l.cell-iterator ×
    (l.column ≡ length l.yielded) ×
    g.V.Visitor.ready l.visitor l.number l.column ×
    g.V.Visitor.consumed l.initial.visitor l.visitor (placed_row l.number 0 l.yielded)
