use Rattle.std.proofs.Common.{◌≡◌, ◌<◌}
use Rattle.std.specs.Prelude.{◌^◌}
use Rattle.papergrid_values.specs.declared.direction.Direction.{Direction}
use Rattle.papergrid_layout.specs.Places.{TableView, total_along}
use Rattle.papergrid_layout.specs.ForProofs.Placing.{AreMarked}
use Rattle.papergrid_layout.proofs.SpanningLemmas.{HasSpanned}
use Rattle.papergrid_layout.proofs.spanning.spanning_cells.Given as goal

abbrev pub invariant-loop-i : goal.invariant-loop-i
invariant-loop-i g l = (table : TableView) → table.grid ≡ g.S.ConfigView.grid l.settings → AreMarked table l.marks.columns l.marks.rows →
    ((direction : Direction) → total_along table direction < 2 ^ 64) → HasSpanned table l.anchors.items l.i l.found
