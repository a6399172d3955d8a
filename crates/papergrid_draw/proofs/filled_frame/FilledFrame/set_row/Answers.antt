use Rattle.std.proofs.Common.{◌≡◌, ◌<◌, length, ap, subst, arith}
use Rattle.papergrid_draw.specs.ForProofs.FilledFrames.{filled, filled_table}
use Rattle.papergrid_draw.specs.ForProofs.Pages.{AreSlotsSet}
use Rattle.papergrid_draw.proofs.SheetLemmas.{told_texts}
use Rattle.papergrid_draw.proofs.filled_frame.FilledFrame.set_row.Goals as goal

pub set-requires : goal.set-requires
set-requires g c = omega (arith, ap (λ s. s.1) c.args.self.now.frame.now.read.shape_is, c.loop-col.invariant.each)

pub loop-col-preserved : goal.loop-col-preserved
loop-col-preserved g c =
    let below : c.loop-col.col < length (filled_table c.args.self.now).widths = omega (arith, ap (λ s. s.1) c.args.self.now.frame.now.read.shape_is) in
    c.set.ensures (told_texts g.S.Cells.lines g.S.Cells.color c.args.self.now.cells.now) c.loop-col.invariant c.requires.row_in below
    c.in_ok-cell.ensures c.color.ensures

pub returns : goal.returns
returns g c =
    let last : c.loop-col.col ≡ length (filled_table c.args.self.now).widths = omega (arith, ap (λ s. s.1) c.args.self.now.frame.now.read.shape_is) in
    subst (λ n. AreSlotsSet (filled g.S.Cells.lines g.S.Cells.color c.args.self.now) c.args.row n c.loop-col.slots) last c.loop-col.invariant
