use Rattle.papergrid_tracks.proofs.CountLemmas.{CountedTo}
use Rattle.papergrid_tracks.proofs.lines.counts_of.Given as goal

abbrev pub invariant-loop-is_drawn : goal.invariant-loop-is_drawn
invariant-loop-is_drawn l = CountedTo l.drawn l.is_drawn-index l.counts.items l.count
