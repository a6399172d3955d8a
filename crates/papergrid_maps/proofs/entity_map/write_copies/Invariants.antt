use Rattle.std.specs.HashMap.{spare, get}
use Rattle.papergrid_values.specs.MapKeys.{position_eq}
use Rattle.papergrid_maps.proofs.WrittenCopies.{Written}
use Rattle.papergrid_maps.proofs.entity_map.write_copies.Given as goal

abbrev pub invariant-loop-position : goal.invariant-loop-position
invariant-loop-position g l = Written l.position-index l.positions l.value l.copies.items (spare l.cells) (get position_eq l.cells) (get position_eq l.initial.cells)
