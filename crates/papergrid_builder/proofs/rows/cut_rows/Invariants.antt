use Rattle.std.proofs.Common.{◌≡◌, ◌++◌, length, take}
use Rattle.std.specs.Prelude.{IsUtf8}
use Rattle.papergrid_builder.specs.BuilderStates.{rows_in}
use Rattle.papergrid_builder.specs.ForProofs.Texts.{AreStarts, rows_told}
use Rattle.papergrid_builder.proofs.rows.cut_rows.Given as goal

-- the rows so far and those that are left are those from before with all of the text's
abbrev pub invariant-loop-rest : goal.invariant-loop-rest
invariant-loop-rest l = record {
  utf8 : IsUtf8 l.rest;
  cut : rows_told l.cells l.starts.items ++ rows_in l.cell_end l.row_end l.rest
      ≡ rows_told l.initial.cells l.initial.starts.items ++ rows_in l.cell_end l.row_end l.text;
  starts : AreStarts (length l.cells) l.starts.items;
  cells_first : take (length l.initial.cells) l.cells ≡ l.initial.cells;
  starts_first : take (length l.initial.starts.items) l.starts.items ≡ l.initial.starts.items;
}

abbrev pub decreases-loop-rest : goal.decreases-loop-rest
decreases-loop-rest l = length l.rest
