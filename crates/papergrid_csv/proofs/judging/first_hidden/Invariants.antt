use Rattle.std.proofs.Common.{map, take}
use Rattle.std.specs.Prelude.{MatchOption}
use Rattle.papergrid_values.specs.declared.position.Position.{Position}
use Rattle.papergrid_draw.specs.Tiles.{IsFirstPosition}
use Rattle.papergrid_csv.specs.Judging.{IsFieldHidden}
use Rattle.papergrid_csv.specs.Rows.{row_texts}
use Rattle.papergrid_csv.proofs.judging.first_hidden.Given as goal

abbrev pub invariant-loop-span : goal.invariant-loop-span
invariant-loop-span l =
    MatchOption l.first ((p : Position) → IsFieldHidden (take l.span-index l.spans) (map row_texts l.rows) p → ⊥)
    (IsFirstPosition (IsFieldHidden (take l.span-index l.spans) (map row_texts l.rows)))
