use Rattle.std.proofs.Common.{◌≡◌, map, take}
use Rattle.papergrid_csv.specs.Rows.{greatest_length, row_texts}
use Rattle.papergrid_csv.proofs.reading.greatest_length.Given as goal

abbrev pub invariant-loop-row : goal.invariant-loop-row
invariant-loop-row l = l.greatest ≡ greatest_length (map row_texts (take l.row-index l.rows))
