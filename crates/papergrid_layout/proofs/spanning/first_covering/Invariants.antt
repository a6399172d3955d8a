use Rattle.std.proofs.Common.{ℕ, ◌<◌, get_or}
use Rattle.papergrid_layout.specs.Places.{Covers}
use Rattle.papergrid_layout.specs.declared.spanning.SpanningCell.{SpanningCell}
use Rattle.papergrid_layout.proofs.spanning.first_covering.Given as goal

-- none of the cells so far covers the point
abbrev pub invariant-loop-i : goal.invariant-loop-i
invariant-loop-i l = (k : ℕ) (d : SpanningCell) → k < l.i → Covers (get_or l.cells k d).place l.column l.line → ⊥
