use Rattle.std.proofs.Common.{◌≡◌}
use Rattle.papergrid_maps.specs.Hidden.{AreAnchorsOf}
use Rattle.papergrid_layout.specs.Places.{TableView}
use Rattle.papergrid_draw.proofs.EndLemmas.{EndInTable}
use Rattle.papergrid_draw.proofs.tiles.check_ends.Given as goal

abbrev pub invariant-loop-i : goal.invariant-loop-i
invariant-loop-i l = (table : TableView) → AreAnchorsOf table.grid l.anchors → table.shape ≡ l.shape → EndInTable table l.anchors l.i l.sweep
