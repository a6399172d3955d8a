use Rattle.std.specs.HashMap.{get}
use Rattle.papergrid_maps.specs.Keys.{entity_eq}
use Rattle.papergrid_maps.proofs.IntoMap.{Puts}
use Rattle.papergrid_maps.proofs.entity_map.put_all.Given as goal

abbrev pub invariant-loop-key : goal.invariant-loop-key
invariant-loop-key g l = Puts (goal.F-post g l.entity) l.key-iterator l.initial.key-iterator (get entity_eq l.all) (get entity_eq l.initial.all)
