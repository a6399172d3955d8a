use Rattle.papergrid_maps.proofs.StoredMapLemmas.{new_history}
use Rattle.papergrid_maps.proofs.entity_map.EntityMap.new.Goals as goal

pub returns : goal.returns
returns g c = rw (c.new.ensures.empty, c.new-2.ensures.empty, c.new-3.ensures.empty) (new_history c.args.global)
