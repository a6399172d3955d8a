use Rattle.std.proofs.Common.{[]}
use Rattle.std.specs.Str.Iter.{lines_steps}
use Rattle.std.specs.Str.Lines.{lines as std_lines}
use Rattle.std.proofs.lemmas.Iterator.Splits.{YieldsList-from_lines}
use Rattle.papergrid_text.proofs.Nth.{at_some}
use Rattle.papergrid.proofs.FirstLines.{first_item}
use Rattle.papergrid.proofs.equal_rows.first_std_line.Goals as goal

pub returns-in-Some : goal.returns-in-Some
returns-in-Some c =
    at_some _ _ c.next.result c.in-Some.line c.in-Some.is
    (first_item lines_steps (λ line. line.now) c.lines.result c.next.new.self (std_lines c.args.text.now) c.next.result []
    (YieldsList-from_lines c.args.text.now c.lines.ensures.rest).runs c.next.ensures.steps)
