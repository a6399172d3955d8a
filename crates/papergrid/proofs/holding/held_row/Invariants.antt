use Rattle.std.proofs.Common.{◌≡◌}
use Rattle.papergrid.proofs.holding.held_row.Given as goal

abbrev pub invariant-loop-cell : goal.invariant-loop-cell
invariant-loop-cell g l =
    (goal.iterator-loop-cell g).can_next l.cell-iterator ×
    (goal.iterator-loop-cell g).is_finite l.cell-iterator ×
    (l.held.items ≡ l.yielded)
