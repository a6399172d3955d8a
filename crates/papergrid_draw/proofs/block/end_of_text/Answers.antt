use Rattle.std.proofs.Common.{◌≤◌, ◌∙◌, arith, length, sym}
use Rattle.papergrid_draw.proofs.BlockLemmas.{end-here, end-less}
use Rattle.papergrid_draw.proofs.block.end_of_text.Goals as goal

pub loop-last-preserved : goal.loop-last-preserved
loop-last-preserved g c =
    let within : c.loop-last.last ≤ length (g.T.Cell.lines c.args.cell.now) = c.loop-last.invariant.within in
    record {
      from = omega arith;
      within = omega arith;
      sought = sym (end-less (g.T.Cell.lines c.args.cell.now) c.args.start c.loop-last.last within c.loop-last-test.true (sym c.is_blank.ensures ∙ c.if-is_blank.true)) ∙ c.loop-last.invariant.sought;
    }

pub returns-else-is_blank-clause-shown : goal.returns-else-is_blank-clause-shown
returns-else-is_blank-clause-shown g c =
    end-here (g.T.Cell.lines c.args.cell.now) c.args.start c.loop-last.last c.loop-last.invariant.within c.loop-last-test.true (sym c.is_blank.ensures ∙ c.if-is_blank.false) c.loop-last.invariant.sought
