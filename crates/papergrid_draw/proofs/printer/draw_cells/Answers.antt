use Rattle.papergrid_draw.proofs.SinkLemmas.{sink-left, sink-took}
use Rattle.papergrid_draw.proofs.printer.draw_cells.Goals as goal

pub returns-clause-picture : goal.returns-clause-picture
returns-clause-picture g c = sink-took g.W.Sink.contents g.W.Sink.has_failed g.W.Sink.has_stalled _ _ _ c.draw_by.result c.draw_by.ensures.picture

pub returns-clause-drawable : goal.returns-clause-drawable
returns-clause-drawable g c = c.draw_by.ensures.drawable

pub returns-clause-fault : goal.returns-clause-fault
returns-clause-fault g c = c.draw_by.ensures.fault

pub returns-clause-left : goal.returns-clause-left
returns-clause-left g c = sink-left g.W.Sink.contents g.W.Sink.has_failed g.W.Sink.has_stalled _ _ _ c.draw_by.result c.draw_by.ensures.left
