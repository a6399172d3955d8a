use Rattle.papergrid_maps.proofs.WrittenCopies.{all_written}
use Rattle.papergrid_maps.proofs.entity_map.write_copies.Goals as goal

pub returns-clause-ok : goal.returns-clause-ok
returns-clause-ok g c = all_written _ c.loop-position.invariant c.loop-position-test.false c.reserve.ensures.entries.2
