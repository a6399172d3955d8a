use Rattle.std.proofs.Common.{◌<◌, map}
use Rattle.papergrid_values.specs.declared.position.Position.{Position}
use Rattle.papergrid_csv.specs.Rows.{row_texts}
use Rattle.papergrid_csv.specs.ForProofs.Judging.{IsHiddenBy}
use Rattle.papergrid_csv.proofs.judging.first_under.Given as goal

abbrev pub invariant-loop-row : goal.invariant-loop-row
invariant-loop-row l = (p : Position) → p.row < l.row → IsHiddenBy l.span (map row_texts l.rows) p → ⊥
