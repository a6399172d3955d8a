use Rattle.std.proofs.Common.{◌≡◌, ◌<◌, ℕ, get_or, length}
use Rattle.papergrid_draw.specs.ForProofs.FilledFrames.{filled}
use Rattle.papergrid_draw.specs.ForProofs.Pages.{IsSlot, text_start}
use Rattle.papergrid_draw.specs.declared.page.Slot.{Slot}
use Rattle.papergrid_draw.proofs.filled_frame.FilledFrame.plain_slots.Given as goal

abbrev pub invariant-loop-col : goal.invariant-loop-col
invariant-loop-col g l = record {
  many : length l.slots.items ≡ l.col;
  are : (j : ℕ) (other : Slot _) → j < l.col →
      IsSlot (filled g.S.Cells.lines g.S.Cells.color l.self) l.row j
      (text_start (filled g.S.Cells.lines g.S.Cells.color l.self) l.row) (get_or l.slots.items j other);
}
