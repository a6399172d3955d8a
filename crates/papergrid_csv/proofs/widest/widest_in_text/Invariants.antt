use Rattle.std.proofs.Common.{◌≤◌, All, map}
use Rattle.papergrid_text.specs.Text.{width_of}
use Rattle.papergrid_csv.proofs.widest.widest_in_text.Given as goal

abbrev pub invariant-loop-line : goal.invariant-loop-line
invariant-loop-line l = All (λ line. width_of line ≤ l.widest) (map (λ line. line.now) l.yielded)
