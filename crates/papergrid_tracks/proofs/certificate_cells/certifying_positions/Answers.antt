use Rattle.std.proofs.Common.{arith}
use Rattle.std.proofs.lemmas.List.Elements.{recursion_from_All}
use Rattle.papergrid_tracks.proofs.LastLoops.{certificate_cells-by_slots}
use Rattle.papergrid_tracks.proofs.certificate_cells.certifying_positions.Goals as goal

pub returns : goal.returns
returns c = grind (arith, certificate_cells-by_slots, recursion_from_All)
