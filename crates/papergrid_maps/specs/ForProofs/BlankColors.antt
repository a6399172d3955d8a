-- What is empty has no colour at any position.
use Rattle.std.specs.Prelude.{◌≡◌, Option, None, unwrap_or}
use Rattle.papergrid_values.specs.declared.position.Position.{Position}
use Rattle.papergrid_maps.specs.StoredColors.{IsBlank}
use Rattle.papergrid_maps.specs.StoredMap.{Stored, stored_value}

pub blank_value : {C : Type 0} (stored : Stored (Option C)) (p : Position) → IsBlank stored → stored_value stored p ≡ None
blank_value stored p blank = λ i. unwrap_or (blank.nothing.cells p i) (unwrap_or (blank.nothing.columns p.col i) (unwrap_or (blank.nothing.rows p.row i) (blank.global i)))
