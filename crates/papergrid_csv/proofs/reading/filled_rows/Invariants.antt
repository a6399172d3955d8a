use Rattle.std.proofs.Common.{◌≡◌, map}
use Rattle.papergrid_csv.specs.Rows.{with_empty_fields, row_texts, held_texts}
use Rattle.papergrid_csv.proofs.reading.filled_rows.Given as goal

abbrev pub invariant-loop-row : goal.invariant-loop-row
invariant-loop-row l = held_texts l.filled ≡ map (with_empty_fields l.columns) (map row_texts l.yielded)
