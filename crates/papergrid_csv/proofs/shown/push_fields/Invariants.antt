use Rattle.std.proofs.Common.{map, take}
use Rattle.std.specs.List.{AllZip}
use Rattle.papergrid_csv.specs.Cutting.{IsCut}
use Rattle.papergrid_csv.specs.Rows.{row_texts}
use Rattle.papergrid_csv.proofs.shown.push_fields.Given as goal

abbrev pub invariant-loop-field : goal.invariant-loop-field
invariant-loop-field l = AllZip (IsCut l.columns) (map (λ field. field.now) (take l.field-index l.row)) (row_texts l.shown)
