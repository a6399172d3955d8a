use Rattle.std.proofs.Common.{◌≡◌, length, ap, arith}
use Rattle.papergrid_config.specs.Grids.{spanned_grid}
use Rattle.papergrid_walk.specs.ForProofs.Visits.{shows_turn}
use Rattle.papergrid_draw.specs.ForProofs.FilledFrames.{filled, filled_table}
use Rattle.papergrid_draw.proofs.RoomLemmas.{room-turn}
use Rattle.papergrid_draw.proofs.filled_frame.FilledFrame.check_row.Goals as goal

pub check_cell-requires-clause-shows : goal.check_cell-requires-clause-shows
check_cell-requires-clause-shows g c = c.loop-col.invariant.shows

pub check_cell-requires-clause-before : goal.check_cell-requires-clause-before
check_cell-requires-clause-before g c = c.loop-col.invariant.before

pub returns-clause-shows : goal.returns-clause-shows
returns-clause-shows g c = shows_turn (spanned_grid (filled_table c.args.self.now).config) c.loop-col.sweep c.args.row c.loop-col.col c.loop-col.invariant.shows

pub returns-clause-ok : goal.returns-clause-ok
returns-clause-ok g c =
    let last : c.loop-col.col ≡ length (filled_table c.args.self.now).widths = omega (arith, ap (λ s. s.1) c.args.self.now.frame.now.read.shape_is) in
    room-turn (filled g.S.Cells.lines g.S.Cells.color c.args.self.now) c.args.row c.loop-col.col last c.loop-col.invariant.before
