use Rattle.papergrid_maps.proofs.StoredMapLemmas.{stored-IsEffective, stored_value-view_of, unwrap_or_set, unwrap_or_unset}
use Rattle.std.proofs.Common.{arith}
use Rattle.papergrid_maps.proofs.entity_map.EntityMap.get.Goals as goal

pub returns-in-Some-clause-stored : goal.returns-in-Some-clause-stored
returns-in-Some-clause-stored g c = rw (← c.self.view_is, stored_value-view_of) (unwrap_or_set _ c.in-Some.ensures.value)

pub returns-in-Some-clause-effective : goal.returns-in-Some-clause-effective
returns-in-Some-clause-effective g c = λ given calls told. stored-IsEffective given calls _ told c.args.position (returns-in-Some-clause-stored g c)

pub returns-in-Some-look_up-clause-stored : goal.returns-in-Some-look_up-clause-stored
returns-in-Some-look_up-clause-stored g c = grind (arith, stored_value-view_of, unwrap_or_unset, unwrap_or_set)

pub returns-in-Some-look_up-clause-effective : goal.returns-in-Some-look_up-clause-effective
returns-in-Some-look_up-clause-effective g c = λ given calls told. stored-IsEffective given calls _ told c.args.position (returns-in-Some-look_up-clause-stored g c)

pub returns-in-Some-look_up-2-clause-stored : goal.returns-in-Some-look_up-2-clause-stored
returns-in-Some-look_up-2-clause-stored g c = grind (arith, stored_value-view_of, unwrap_or_unset, unwrap_or_set)

pub returns-in-Some-look_up-2-clause-effective : goal.returns-in-Some-look_up-2-clause-effective
returns-in-Some-look_up-2-clause-effective g c = λ given calls told. stored-IsEffective given calls _ told c.args.position (returns-in-Some-look_up-2-clause-stored g c)

pub returns-clause-stored : goal.returns-clause-stored
returns-clause-stored g c = grind (arith, stored_value-view_of, unwrap_or_unset)

pub returns-clause-effective : goal.returns-clause-effective
returns-clause-effective g c = λ given calls told. stored-IsEffective given calls _ told c.args.position (returns-clause-stored g c)
