use Rattle.std.proofs.Common.{◌<◌, ℕ, map}
use Rattle.papergrid_csv.specs.ForProofs.Judging.{IsHiddenIn}
use Rattle.papergrid_csv.proofs.judging.first_in_row.Given as goal

abbrev pub invariant-loop-col : goal.invariant-loop-col
invariant-loop-col l = (c : ℕ) → c < l.col → IsHiddenIn l.span l.row (map (λ field. field.now) l.fields) c → ⊥
