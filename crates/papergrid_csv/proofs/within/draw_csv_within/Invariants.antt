use Rattle.papergrid_csv.proofs.WithinLemmas.{IsTried}
use Rattle.papergrid_csv.proofs.within.draw_csv_within.Given as goal

abbrev pub invariant-loop-next : goal.invariant-loop-next
invariant-loop-next g l =
    IsTried g.W.Sink.contents g.W.Sink.has_failed g.W.Sink.has_stalled l.fn.request l.width l.input l.fn.writer l.writer l.request l.end l.next

abbrev pub decreases-loop-next : goal.decreases-loop-next
decreases-loop-next g l = l.next
