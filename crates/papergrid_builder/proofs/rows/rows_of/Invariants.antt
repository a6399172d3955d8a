use Rattle.std.proofs.Common.{◌≡◌, ◌++◌, length}
use Rattle.papergrid_builder.specs.ForProofs.Texts.{AreStarts, rows_lent, rows_told, texts_lent}
use Rattle.papergrid_builder.proofs.rows.rows_of.Given as goal

-- the rows so far and those that are left are all; those that are left begin within the cells
abbrev pub invariant-loop-start : goal.invariant-loop-start
invariant-loop-start l = record {
  rows : rows_lent l.rows.items ++ rows_told (texts_lent l.texts) l.rest ≡ rows_told (texts_lent l.texts) l.starts;
  starts : AreStarts (length l.texts) l.rest;
}

abbrev pub decreases-loop-start : goal.decreases-loop-start
decreases-loop-start l = length l.rest
