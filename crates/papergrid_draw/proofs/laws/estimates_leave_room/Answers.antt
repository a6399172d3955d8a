use Rattle.papergrid_draw.proofs.EstimateLemmas.{measured-leave-room, texts-leave-room}
use Rattle.papergrid_draw.proofs.laws.estimates_leave_room.Goals as goal

pub returns-clause-measured : goal.returns-clause-measured
returns-clause-measured g c = measured-leave-room

pub returns-clause-texts : goal.returns-clause-texts
returns-clause-texts g c = texts-leave-room
