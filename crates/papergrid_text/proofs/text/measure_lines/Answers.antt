use Rattle.std.proofs.Common.{arith, ap, ◌∙◌, sym, subst, map}
use Rattle.std.specs.List.{All}
use Rattle.std.proofs.lemmas.List.Elements.{All-push}
use Rattle.papergrid_text.specs.LineCache.{IsInsideText, line_of_range}
use Rattle.papergrid_text.specs.LinesLeft.{lines_left}
use Rattle.papergrid_text.proofs.Ranges.{step_by, rest_at_start, lines_more}
use Rattle.papergrid_text.proofs.Widths.{greatest_of-more}
use Rattle.papergrid_text.proofs.text.measure_lines.Goals as goal

pub lines-init : goal.lines-init
lines-init c = grind (arith, rest_at_start)

pub lines-preserved : goal.lines-preserved
lines-preserved c =
    let step = step_by c.args.text.now c.in-Some.line.now c.lines.start _ (lines_left c.next.new.self) c.utf8.text c.in-Some.ensures.steps c.lines.invariant.5 in (
      tt,
      tt,
      greatest_of-more c.lines.yielded c.in-Some.line _ _ _ c.lines.invariant.2 c.get_line_width-width.ensures c.max-greatest.ensures,
      ap (map (line_of_range c.args.text.now)) c.in_ok-push.ensures.items ∙ lines_more c.args.text.now c.lines.ranges.items _ c.lines.yielded c.in-Some.line c.lines.invariant.3 step.same c.get_line_width-width.ensures,
      subst (All (IsInsideText c.args.text.now)) (sym c.in_ok-push.ensures.items) (All-push (IsInsideText c.args.text.now) c.lines.ranges.items _ c.lines.invariant.4 (step.inside c.get_line_width-width.result)),
      step.left,
    )
