use Rattle.std.proofs.Common.{◌≡◌}
use Rattle.std.specs.Prelude.{filter_map}
use Rattle.std.specs.List.{range_with_len}
use Rattle.papergrid_tracks.specs.ForProofs.LastCells.{certificate_slot}
use Rattle.papergrid_tracks.proofs.certificate_cells.certifying_cells.Given as goal

abbrev pub invariant-loop-i : goal.invariant-loop-i
invariant-loop-i l = l.cells.items ≡ filter_map (certificate_slot l.last l.single_span l.sizes) (range_with_len 0 l.i)
