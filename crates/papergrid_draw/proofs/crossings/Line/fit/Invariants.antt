use Rattle.papergrid_draw.specs.ForProofs.Crossings.{AreFittedBefore}
use Rattle.papergrid_draw.proofs.crossings.Line.fit.Given as goal

abbrev pub invariant-loop-column : goal.invariant-loop-column
invariant-loop-column l = AreFittedBefore l.self.config.now l.self.shape l.junctions l.self.row l.column l.settings.items
