use Rattle.std.proofs.Common.{◌≡◌, ◌++◌, ◌-◌, ◌<◌, [], length, replicate}
use Rattle.papergrid_csv.specs.Rows.{row_texts}
use Rattle.papergrid_csv.proofs.reading.filled_up.Given as goal

abbrev pub invariant-loop : goal.invariant-loop
invariant-loop l =
    (row_texts l.filled ≡ row_texts l.fn.row ++ replicate (l.counter - length l.fn.row.items) [])
    × (l.columns < length l.fn.row.items → l.counter ≡ length l.fn.row.items)
