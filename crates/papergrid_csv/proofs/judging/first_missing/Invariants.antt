use Rattle.std.proofs.Common.{◌≡◌, ◌<◌, ℕ, get_or, map, true}
use Rattle.papergrid_csv.specs.Judging.{is_found}
use Rattle.papergrid_csv.specs.Requests.{first_row}
use Rattle.papergrid_csv.specs.Rows.{row_texts}
use Rattle.papergrid_csv.specs.declared.request.Alignment.{Alignment}
use Rattle.papergrid_csv.specs.declared.request.ColumnName.{ColumnName}
use Rattle.papergrid_csv.proofs.judging.first_missing.Given as goal

abbrev pub invariant-loop-index : goal.invariant-loop-index
invariant-loop-index l =
    (k : ℕ) (default : ColumnName × Alignment) → k < l.index → is_found (first_row (map row_texts l.rows)) (get_or l.entries k default).0 ≡ true
