use Rattle.papergrid_config.specs.Grids.{spanned_grid}
use Rattle.papergrid_walk.specs.ForProofs.Shown.{Shows}
use Rattle.papergrid_draw.specs.ForProofs.FilledFrames.{filled, filled_table}
use Rattle.papergrid_draw.specs.ForProofs.Sheets.{HaveRoomBefore}
use Rattle.papergrid_draw.proofs.filled_frame.FilledFrame.check_room.Given as goal

abbrev pub invariant-loop-row : goal.invariant-loop-row
invariant-loop-row g l = record {
  shows : Shows (spanned_grid (filled_table l.self).config) l.sweep l.row 0;
  before : HaveRoomBefore (filled g.S.Cells.lines g.S.Cells.color l.self) l.row 0;
}
