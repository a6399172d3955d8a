use Rattle.papergrid_maps.proofs.entity_map.EntityMap.apply.Goals as goal

pub returns-in-Insert-clause-ok : goal.returns-in-Insert-clause-ok
returns-in-Insert-clause-ok g c = rw c.in-Insert.is c.insert.ensures.ok

pub returns-in-Remove-clause-ok : goal.returns-in-Remove-clause-ok
returns-in-Remove-clause-ok g c = rw c.in-Remove.is c.remove.ensures
