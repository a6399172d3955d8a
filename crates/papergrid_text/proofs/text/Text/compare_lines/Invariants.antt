use Rattle.std.proofs.Common.{◌≡◌, ◌≤◌, drop, length, min}
use Rattle.std.specs.Cmp.Lexicographic.{slice_cmp}
use Rattle.papergrid_text.specs.TextOrder.{line_cmp}
use Rattle.papergrid_text.proofs.text.Text.compare_lines.Given as goal

abbrev pub invariant-loop-line : goal.invariant-loop-line
invariant-loop-line g l =
    (l.line ≤ min (length l.self.lines) (length l.other.lines)) ×
    (slice_cmp line_cmp (drop l.line l.self.lines) (drop l.line l.other.lines) ≡ slice_cmp line_cmp l.self.lines l.other.lines)
