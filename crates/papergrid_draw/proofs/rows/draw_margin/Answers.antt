use Rattle.std.proofs.Common.{◌∷◌, [], ◌∙◌, Ok, option_copied, replicate, subst, arith}
use Rattle.std.proofs.lemmas.List.{replicate-append-replicate}
use Rattle.std.proofs.lemmas.Result.{err_from_is_err_and}
use Rattle.papergrid_draw.specs.Margins.{margin_line}
use Rattle.papergrid_draw.specs.ForProofs.Sheets.{WritesLines}
use Rattle.papergrid_draw.proofs.SheetLemmas.{lines-cut-copies, lines-then}
use Rattle.papergrid_draw.proofs.rows.draw_margin.Goals as goal

pub returns-in_err-draw_margin_line-clause-lines : goal.returns-in_err-draw_margin_line-clause-lines
returns-in_err-draw_margin_line-clause-lines g c =
    let p = err_from_is_err_and c.from_residual.result c.from_residual.ensures.1 in
    rw (p.1, p.2)
    (lines-cut-copies g.D.Delivery.takes g.D.Delivery.breaks _ _ _ _ _ _ _ _ c.loop-k.k c.args.indent.now.size tt _ (omega arith) c.loop-k.invariant.lines c.in_err-draw_margin_line.ensures.lines)

pub loop-k-preserved : goal.loop-k-preserved
loop-k-preserved g c =
    let line = margin_line c.args.indent.now (option_copied c.args.color) c.args.offset.now c.args.width in
    record {
      lines = subst (λ lines. WritesLines g.D.Delivery.takes g.D.Delivery.breaks c.args.writer.now c.draw_margin_line.new.writer c.args.sheet.now.begun c.draw_margin_line.new.sheet.begun lines (Ok tt))
          (replicate-append-replicate c.loop-k.k 1 line)
          (lines-then g.D.Delivery.takes g.D.Delivery.breaks _ _ _ _ _ _ (replicate c.loop-k.k line) (line ∷ []) tt (Ok tt) c.loop-k.invariant.lines c.in_ok-draw_margin_line.ensures.lines);
      written = c.in_ok-draw_margin_line.ensures.written ∙ c.loop-k.invariant.written;
    }
