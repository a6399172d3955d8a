use Rattle.std.proofs.Common.{append-nil, arith}
use Rattle.papergrid_tracks.proofs.LastLoops.{filter_map_slot_more}
use Rattle.papergrid_tracks.proofs.certificate_cells.certifying_cells.Goals as goal
use Rattle.papergrid_tracks.proofs.certificate_cells.certifying_cells.Goals.{in-Some+in_ok-push, in_default}

pub loop-i-preserved : goal.loop-i-preserved
loop-i-preserved c = grind (arith, filter_map_slot_more, in-Some+in_ok-push, in_default, append-nil)
