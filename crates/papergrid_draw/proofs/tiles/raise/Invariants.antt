use Rattle.papergrid_draw.specs.ForProofs.Tiles.{AreFree, AreRaised}
use Rattle.papergrid_draw.proofs.tiles.raise.Given as goal

abbrev pub invariant-loop-column : goal.invariant-loop-column
invariant-loop-column l = AreFree l.fn.until l.row l.start l.column × AreRaised l.fn.until l.until l.start l.column l.end
