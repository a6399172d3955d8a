use Rattle.papergrid_draw.proofs.BlockLemmas.{room_is}
use Rattle.papergrid_draw.proofs.block.Block.has_room.Goals as goal

pub returns : goal.returns
returns g c = rw (← c.self.view_is) (room_is _ _ _ _ _ c.self.invariant c.has_room_for.result c.has_room_for.ensures)
