use Rattle.std.proofs.Common.{map, take}
use Rattle.std.specs.List.{AllZip}
use Rattle.papergrid_csv.specs.Cutting.{IsCut}
use Rattle.papergrid_csv.specs.Rows.{row_texts, held_texts}
use Rattle.papergrid_csv.proofs.shown.push_rows.Given as goal

abbrev pub invariant-loop-row : goal.invariant-loop-row
invariant-loop-row l = AllZip (AllZip (IsCut l.columns)) (map row_texts (take l.row-index l.rows)) (held_texts l.shown)
