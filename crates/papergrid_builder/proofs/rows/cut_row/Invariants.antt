use Rattle.std.proofs.Common.{◌≡◌, ◌++◌, length, take}
use Rattle.std.specs.Prelude.{◌==◌}
use Rattle.std.specs.List.{slice_split}
use Rattle.papergrid_builder.proofs.TextLemmas.{cells_left, left_count}
use Rattle.papergrid_builder.proofs.rows.cut_row.Given as goal

-- the cells so far and those that are left are those from before with all of the row's
abbrev pub invariant-loop-rest : goal.invariant-loop-rest
invariant-loop-rest l = record {
  cut : l.cells ++ cells_left l.cell_end l.rest ≡ l.initial.cells ++ slice_split (λ byte. byte == l.cell_end) l.row;
  first : take (length l.initial.cells) l.cells ≡ l.initial.cells;
}

abbrev pub decreases-loop-rest : goal.decreases-loop-rest
decreases-loop-rest l = left_count l.rest
