-- Each part that is written leaves room for the next one, and stands over those before it.
use Rattle.papergrid_tables.proofs.RoomLemmas.{one_corner}
use Rattle.papergrid_tables.proofs.border_parts.put_border.Goals as goal

pub put-requires-7-clause-room : goal.put-requires-7-clause-room
put-requires-7-clause-room g c = one_corner 1 c.put-6.new.self (c.put-6.ensures.room 2 (c.put-5.ensures.room 3 c.requires.room_corners))

pub put-requires-8-clause-room : goal.put-requires-8-clause-room
put-requires-8-clause-room g c = c.put-7.ensures.room 1 (c.put-6.ensures.room 2 (c.put-5.ensures.room 3 c.requires.room_corners))
