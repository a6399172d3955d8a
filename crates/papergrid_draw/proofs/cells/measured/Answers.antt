use Rattle.std.proofs.Common.{◌∙◌, ap, map, sym}
use Rattle.papergrid_text.specs.LineCache.{answered_lines, given_line}
use Rattle.papergrid_draw.proofs.BlankLemmas.{single_is}
use Rattle.papergrid_draw.specs.Cells.{text_lines}
use Rattle.papergrid_draw.proofs.cells.measured.Goals as goal

pub returns-in-Some : goal.returns-in-Some
returns-in-Some c =
    ap (λ t. answered_lines t.text.now t.width t.lines) c.exact.ensures
    ∙ ap (λ lines. answered_lines c.in-Some.line.now c.in-Some.width (map given_line lines)) c.new.ensures.items
    ∙ sym (single_is (text_lines c.args.text.now) (c.in-Some.line.now, c.in-Some.width) (sym c.in-Some.ensures))
