use Rattle.std.proofs.Common.{◌≡◌, map}
use Rattle.papergrid_text.specs.Text.{greatest_width}
use Rattle.papergrid_text.proofs.string.get_text_width.Given as goal

abbrev pub invariant-loop-line : goal.invariant-loop-line
invariant-loop-line l =
    (goal.iterator-loop-line).can_next l.line-iterator ×
    (goal.iterator-loop-line).is_finite l.line-iterator ×
    (l.width ≡ greatest_width (map (λ line. line.now) l.yielded))
