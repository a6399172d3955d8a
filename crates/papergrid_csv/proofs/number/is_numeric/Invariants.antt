use Rattle.std.proofs.Common.{◌≡◌, drop, map}
use Rattle.std.specs.Prelude.{◌||◌}
use Rattle.std.specs.List.{list_all, list_any}
use Rattle.papergrid_csv.specs.Numbers.{field_in, is_empty, is_number}
use Rattle.papergrid_csv.specs.Rows.{row_texts}
use Rattle.papergrid_csv.proofs.number.is_numeric.Given as goal

abbrev pub invariant-loop-row : goal.invariant-loop-row
invariant-loop-row l =
    let rows = map row_texts l.rows in
    let left = map row_texts (drop l.row-index l.rows) in
    record {
      all : list_all (λ row. is_empty (field_in l.column row) || is_number (field_in l.column row)) left
          ≡ list_all (λ row. is_empty (field_in l.column row) || is_number (field_in l.column row)) rows;
      any : (l.found || list_any (λ row. is_number (field_in l.column row)) left) ≡ list_any (λ row. is_number (field_in l.column row)) rows;
    }
