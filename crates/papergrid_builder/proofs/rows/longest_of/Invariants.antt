use Rattle.std.proofs.Common.{◌≡◌, take}
use Rattle.papergrid_builder.specs.BuilderStates.{longest}
use Rattle.papergrid_builder.specs.ForProofs.Texts.{rows_lent}
use Rattle.papergrid_builder.proofs.rows.longest_of.Given as goal

-- the longest of the rows before this one
abbrev pub invariant-loop-row : goal.invariant-loop-row
invariant-loop-row l = l.longest ≡ longest (rows_lent (take l.row-index l.rows))
