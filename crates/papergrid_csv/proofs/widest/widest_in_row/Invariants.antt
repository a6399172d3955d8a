use Rattle.std.proofs.Common.{All, map, take}
use Rattle.papergrid_csv.specs.ForProofs.Cuts.{HasLinesWithin}
use Rattle.papergrid_csv.proofs.widest.widest_in_row.Given as goal

abbrev pub invariant-loop-field : goal.invariant-loop-field
invariant-loop-field l = All (HasLinesWithin l.widest) (map (λ field. field.now) (take l.field-index l.row))
