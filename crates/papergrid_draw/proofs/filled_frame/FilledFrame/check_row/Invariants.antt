use Rattle.papergrid_config.specs.Grids.{spanned_grid}
use Rattle.papergrid_walk.specs.ForProofs.Shown.{Shows}
use Rattle.papergrid_draw.specs.ForProofs.FilledFrames.{filled, filled_table}
use Rattle.papergrid_draw.specs.ForProofs.Sheets.{HaveRoomBefore}
use Rattle.papergrid_draw.proofs.filled_frame.FilledFrame.check_row.Given as goal

abbrev pub invariant-loop-col : goal.invariant-loop-col
invariant-loop-col g l = record {
  shows : Shows (spanned_grid (filled_table l.self).config) l.sweep l.row l.col;
  before : HaveRoomBefore (filled g.S.Cells.lines g.S.Cells.color l.self) l.row l.col;
}
