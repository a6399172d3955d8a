use Rattle.std.proofs.Common.{ap, ◌∙◌, sym, length}
use Rattle.std.proofs.lemmas.Iterator.{items_from_drains}
use Rattle.std.proofs.lemmas.Iterator.Splits.{YieldsList-from_lines}
use Rattle.std.proofs.lemmas.List.{length-map}
use Rattle.papergrid_text.proofs.cell.count_std_lines.Goals as goal

pub returns : goal.returns
returns c =
    let ran = c.count.ensures.ran in
    let all = items_from_drains ran.0 (ran.1.1.0, ran.1.1.1, λ _. (ran.1.0, ran.1.1.2)) (YieldsList-from_lines c.args.text.now c.lines.ensures.rest) in
    ran.2 ∙ sym (length-map ran.0 (λ line. line.now)) ∙ ap length all
