use Rattle.std.proofs.Common.{◌≡◌, length, ap, arith}
use Rattle.papergrid_draw.specs.ForProofs.FilledFrames.{filled, filled_table}
use Rattle.papergrid_draw.proofs.RoomLemmas.{room-all}
use Rattle.papergrid_draw.proofs.filled_frame.FilledFrame.check_room.Goals as goal

pub returns-clause-ok : goal.returns-clause-ok
returns-clause-ok g c =
    let last : c.loop-row.row ≡ length (filled_table c.args.self.now).heights = omega (arith, ap (λ s. s.0) c.args.self.now.frame.now.read.shape_is) in
    room-all (filled g.S.Cells.lines g.S.Cells.color c.args.self.now) c.loop-row.row last c.loop-row.invariant.before
