use Rattle.papergrid.proofs.PrintLemmas.{sink-prints}
use Rattle.papergrid.proofs.peekable.PeekableGrid.write_to.Goals as goal

pub returns : goal.returns
returns g c = sink-prints _ g.W.Sink.contents g.W.Sink.has_failed g.W.Sink.has_stalled _ _ c.print.result c.print.ensures
