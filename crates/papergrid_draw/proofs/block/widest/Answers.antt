use Rattle.std.proofs.Common.{◌<◌, ◌∙◌, arith, length, max, sym}
use Rattle.papergrid_draw.proofs.BlockLemmas.{widest-more}
use Rattle.papergrid_draw.proofs.block.widest.Goals as goal

pub loop-line-preserved : goal.loop-line-preserved
loop-line-preserved g c =
    let there : c.loop-line.line < length (g.T.Cell.lines c.args.cell.now) = omega arith in
    record {
      within = omega arith;
      most = c.max-most.ensures ∙ (λ i. max (c.loop-line.invariant.most i) (c.shown_line.ensures.width i)) ∙ sym (widest-more c.args.trims (g.T.Cell.lines c.args.cell.now) c.loop-line.line there);
    }
