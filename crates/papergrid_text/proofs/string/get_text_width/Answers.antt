use Rattle.std.proofs.Common.{ap, sym, ◌∙◌, arith}
use Rattle.std.proofs.lemmas.Iterator.{items_from_drains}
use Rattle.std.proofs.lemmas.Iterator.Splits.{YieldsList-from_lines}
use Rattle.std.specs.Str.Iter.{lines_rest}
use Rattle.papergrid_text.specs.Text.{greatest_width}
use Rattle.papergrid_text.proofs.Printable.{text_width-printable}
use Rattle.papergrid_text.proofs.Widths.{greatest_of-more}
use Rattle.papergrid_text.proofs.string.get_text_width.Goals as goal

pub returns-then-is_printable : goal.returns-then-is_printable
returns-then-is_printable c = sym (text_width-printable c.args.text.now (sym c.if-is_printable.ensures))

pub loop-line-preserved : goal.loop-line-preserved
loop-line-preserved c = grind (arith, greatest_of-more)

pub returns : goal.returns
returns c =
    let all = items_from_drains c.loop-line.yielded (c.loop-line.line-iterator, c.loop-line.yielded_by, λ _. (c.next.new.self, c.in-None.ensures.steps)) (YieldsList-from_lines c.args.text.now (ap lines_rest c.into_iter-line-iterator.ensures.into_iter_gives ∙ c.lines-line-items.ensures.rest)) in
    c.loop-line.invariant.2 ∙ ap greatest_width all
