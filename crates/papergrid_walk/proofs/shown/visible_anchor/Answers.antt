use Rattle.std.proofs.Common.{arith}
use Rattle.papergrid_walk.proofs.shown.visible_anchor.Goals as goal

pub is_hidden-requires-clause-ahead : goal.is_hidden-requires-clause-ahead
is_hidden-requires-clause-ahead c = c.in_ok-make_room.ensures.asked c.args.position (c.requires.asked.1.ahead c.args.position (omega arith) (λ e. omega arith))
