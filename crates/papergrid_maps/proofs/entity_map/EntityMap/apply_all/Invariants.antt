use Rattle.std.specs.Vec.Iter.{into_iter_items}
use Rattle.papergrid_maps.specs.StoredMap.{AppendsCalls}
use Rattle.papergrid_maps.proofs.Applied.{AppliedSoFar}
use Rattle.papergrid_maps.proofs.entity_map.EntityMap.apply_all.Given as goal

abbrev pub invariant-loop-call : goal.invariant-loop-call
invariant-loop-call g l = AppliedSoFar (AppendsCalls l.initial.self l.self) l.yielded (into_iter_items l.call-iterator) (into_iter_items l.initial.call-iterator) l.done
