use Rattle.std.proofs.Common.{◌≡◌, drop, max}
use Rattle.papergrid_json.specs.Documents.{longest_row, texts_of_rows}
use Rattle.papergrid_json.proofs.document.longest_row.Given as goal

abbrev pub invariant-loop-row : goal.invariant-loop-row
invariant-loop-row l = max l.greatest (longest_row (texts_of_rows (drop l.row-index l.rows))) ≡ longest_row (texts_of_rows l.rows)
