use Rattle.std.proofs.Common.{ap, sym, ◌∙◌}
use Rattle.std.specs.Cmp.Lexicographic.{lists_ties}
use Rattle.std.specs.Ordering.{is_eq}
use Rattle.papergrid_text.specs.ForProofs.TextLaws.{line_ties}
use Rattle.papergrid_text.specs.TextOrder.{line_cmp}
use Rattle.papergrid_text.proofs.text.Text.has_same_lines.Goals as goal

pub returns : goal.returns
returns g c = c.is_eq.ensures ∙ ap is_eq c.compare_lines.ensures ∙ sym (lists_ties line_cmp line_ties c.args.self.now.lines c.args.other.now.lines)
