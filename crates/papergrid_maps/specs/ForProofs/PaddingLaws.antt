-- The paddings of a configuration are decided by what is set for entities.
use Rattle.std.proofs.Common.{◌∙◌, ap}
use Rattle.std.specs.Prelude.{◌≡◌, Option, None, Some, option_map, refl, unwrap_or}
use Rattle.std.specs.FinMap.{get}
use Rattle.papergrid_maps.specs.StoredMap.{Stored, held_for, stored_value}
use Rattle.papergrid_values.specs.declared.indent.Indent.{Indent}
use Rattle.papergrid_values.specs.declared.position.Position.{Position}
use Rattle.papergrid_values.specs.declared.sides.Sides.{Sides}
use Rattle.papergrid_maps.specs.Paddings.{set_in_row, sizes}

-- a function of the first value that is there
taken_out : {A B : Type 0} (f : A → B) (o : Option A) (d : A) → f (unwrap_or o d) ≡ unwrap_or (option_map f o) (f d)
taken_out f None d = refl
taken_out f (Some v) d = refl

pub stored_decides : (stored : Stored (Sides Indent)) (p : Position) → sizes (stored_value stored p)
    ≡ unwrap_or (option_map sizes (get stored.cells p)) (unwrap_or (option_map sizes (get stored.columns p.col)) (set_in_row (λ entity. option_map sizes (held_for stored entity)) p.row))
stored_decides stored p =
    let in_row = unwrap_or (get stored.rows p.row) stored.global in
    taken_out sizes (get stored.cells p) (unwrap_or (get stored.columns p.col) in_row)
    ∙ ap (unwrap_or (option_map sizes (get stored.cells p)))
    (taken_out sizes (get stored.columns p.col) in_row
    ∙ ap (unwrap_or (option_map sizes (get stored.columns p.col))) (taken_out sizes (get stored.rows p.row) stored.global))
