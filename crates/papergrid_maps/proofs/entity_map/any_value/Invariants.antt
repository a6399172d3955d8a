use Rattle.std.proofs.Common.{false, map}
use Rattle.std.specs.Fn.{FnReturnsAt}
use Rattle.std.specs.Map.Iter.{deref}
use Rattle.std.specs.HashMap.{values}
use Rattle.papergrid_maps.proofs.AnyStored.{Passed}
use Rattle.papergrid_maps.proofs.entity_map.any_value.Given as goal

abbrev pub invariant-loop-value : goal.invariant-loop-value
invariant-loop-value g l = Passed (λ v. FnReturnsAt g.F.Fn l.f v false) (map deref l.yielded) l.value-iterator (values l.map)
