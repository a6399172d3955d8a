use Rattle.papergrid_draw.specs.ForProofs.FilledFrames.{filled}
use Rattle.papergrid_draw.specs.ForProofs.Pages.{AreSlotsSet}
use Rattle.papergrid_draw.proofs.filled_frame.FilledFrame.set_row.Given as goal

abbrev pub invariant-loop-col : goal.invariant-loop-col
invariant-loop-col g l = AreSlotsSet (filled g.S.Cells.lines g.S.Cells.color l.self) l.row l.col l.slots
