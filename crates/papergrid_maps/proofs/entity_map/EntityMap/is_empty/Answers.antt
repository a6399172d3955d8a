use Rattle.papergrid_maps.proofs.StoredMapLemmas.{nothing_stored}
use Rattle.papergrid_maps.proofs.entity_map.EntityMap.is_empty.Goals as goal

pub returns : goal.returns
returns g c = rw (← c.self.view_is) (nothing_stored _ _ _ _ _ _ _ c.is_empty-columns.ensures c.is_empty-rows.ensures c.is_empty-cells.ensures)
