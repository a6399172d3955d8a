use Rattle.std.proofs.Common.{arith}
use Rattle.papergrid_values.specs.Positions.{position_of}
use Rattle.papergrid_draw.specs.ForProofs.FilledFrames.{filled}
use Rattle.papergrid_draw.specs.ForProofs.Pages.{IsSlot, text_start}
use Rattle.papergrid_draw.proofs.SheetLemmas.{told_texts}
use Rattle.papergrid_draw.proofs.PlainLemmas.{one-more, plain-inside, plain-slot}
use Rattle.papergrid_draw.proofs.RuleLemmas.{column-in, columns-all}
use Rattle.papergrid_draw.proofs.filled_frame.FilledFrame.plain_slots.Goals as goal

pub loop-col-preserved : goal.loop-col-preserved
loop-col-preserved g c =
    let texts = told_texts g.S.Cells.lines g.S.Cells.color c.args.self.now.cells.now in
    let d = filled g.S.Cells.lines g.S.Cells.color c.args.self.now in
    let row = c.args.row in
    let col = c.loop-col.col in
    let inside = column-in c.args.self.now.frame.now col c.loop-col-test.true in
    let made = c.block-block.ensures texts
    (plain-inside d c.requires.plain (position_of (row, col)) c.requires.row_in inside) c.in_ok-cell.ensures c.color.ensures in
    let more = one-more (λ j slot. IsSlot d row j (text_start d row) slot) c.loop-col.slots.items c.push.new.self.items col _
    c.in_ok-push.ensures.items c.loop-col.invariant.many c.loop-col.invariant.are (plain-slot d c.requires.plain row col c.block-block.result made) in
    record { many = more.0; are = more.1 }

pub returns : goal.returns
returns g c =
    let all = columns-all c.args.self.now.frame.now c.loop-col.col c.loop-col-test.false c.loop-col.auto.col-end in
    record {
      each = omega (arith, c.loop-col.invariant.many, all);
      kept = λ j other inside. c.loop-col.invariant.are j other (omega (arith, inside, all));
    }
