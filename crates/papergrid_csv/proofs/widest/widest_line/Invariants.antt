use Rattle.std.proofs.Common.{All, map, take}
use Rattle.papergrid_csv.specs.Rows.{row_texts}
use Rattle.papergrid_csv.specs.ForProofs.Cuts.{HasLinesWithin}
use Rattle.papergrid_csv.proofs.widest.widest_line.Given as goal

abbrev pub invariant-loop-row : goal.invariant-loop-row
invariant-loop-row l = All (All (HasLinesWithin l.widest)) (map row_texts (take l.row-index l.rows))
