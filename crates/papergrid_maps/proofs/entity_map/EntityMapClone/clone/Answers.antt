use Rattle.std.proofs.Common.{arith}
use Rattle.std.proofs.lemmas.Map.Entries.{entries_from_clone}
use Rattle.papergrid_maps.proofs.StoredMapLemmas.{view_of}
use Rattle.papergrid_maps.proofs.entity_map.EntityMapClone.clone.Goals as goal

pub returns : goal.returns
returns g c = grind (arith, entries_from_clone, view_of)
