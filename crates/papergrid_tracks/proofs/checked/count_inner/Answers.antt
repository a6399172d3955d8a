use Rattle.std.proofs.Common.{arith}
use Rattle.papergrid_tracks.proofs.CheckLemmas.{count_by-more}
use Rattle.papergrid_tracks.proofs.checked.count_inner.Goals as goal
use Rattle.papergrid_tracks.proofs.checked.count_inner.Goals.{then-has_line, else-has_line}

pub loop-i-preserved : goal.loop-i-preserved
loop-i-preserved g c = grind (arith, count_by-more, then-has_line, else-has_line)
