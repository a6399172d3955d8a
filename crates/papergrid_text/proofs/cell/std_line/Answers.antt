use Rattle.std.proofs.Common.{[]}
use Rattle.std.specs.Str.Iter.{lines_steps}
use Rattle.std.specs.Str.Lines.{lines as std_lines}
use Rattle.std.proofs.lemmas.Iterator.Splits.{YieldsList-from_lines}
use Rattle.papergrid_text.proofs.Nth.{nth_item, past_the_end, at_some, at_none}
use Rattle.papergrid_text.proofs.cell.std_line.Goals as goal

pub returns-in-Some : goal.returns-in-Some
returns-in-Some c =
    let at = nth_item lines_steps (λ line. line.now) c.lines.result c.nth.new.self (std_lines c.args.text.now) c.args.line c.nth.result (YieldsList-from_lines c.args.text.now c.lines.ensures.rest).runs c.nth.ensures.ran in
    at_some _ _ c.nth.result c.in-Some.found c.in-Some.is at []

pub returns-in-None : goal.returns-in-None
returns-in-None c =
    let at = nth_item lines_steps (λ line. line.now) c.lines.result c.nth.new.self (std_lines c.args.text.now) c.args.line c.nth.result (YieldsList-from_lines c.args.text.now c.lines.ensures.rest).runs c.nth.ensures.ran in
    past_the_end (std_lines c.args.text.now) c.args.line [] (at_none _ _ c.nth.result c.in-None.is at)
