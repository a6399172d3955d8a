use Rattle.std.proofs.Common.{ap, length, nat_eq, ◌∙◌}
use Rattle.papergrid_text.proofs.PrintableLemmas.{all_printable}
use Rattle.papergrid_text.proofs.width.printable.is_printable.Goals as goal

pub returns : goal.returns
returns c = ap (λ n. nat_eq n (length c.args.text.now)) c.count_printable.ensures ∙ all_printable c.args.text.now
