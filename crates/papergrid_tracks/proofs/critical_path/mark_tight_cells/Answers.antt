use Rattle.std.proofs.Common.{arith}
use Rattle.papergrid_tracks.proofs.FollowedLemmas.{first-kept, first-written}
use Rattle.papergrid_tracks.proofs.critical_path.mark_tight_cells.Goals as goal
use Rattle.papergrid_tracks.proofs.critical_path.mark_tight_cells.Goals.{then-is_tight, else-is_tight}

pub loop-passed-preserved : goal.loop-passed-preserved
loop-passed-preserved c = grind (arith, then-is_tight, first-written, else-is_tight, first-kept)
