use Rattle.std.proofs.Common.{◌≤◌, All, map}
use Rattle.papergrid_text.specs.Text.{width_of}
use Rattle.papergrid_csv.proofs.cutting.has_wide_line.Given as goal

abbrev pub invariant-loop-line : goal.invariant-loop-line
invariant-loop-line l = All (λ line. width_of line ≤ l.columns) (map (λ line. line.now) l.yielded)
