use Rattle.std.proofs.Common.{◌∙◌, ap, sym}
use Rattle.std.specs.Prelude.{option_and_then}
use Rattle.papergrid_tables.specs.BorderParts.{of_horizontal_line, of_vertical_line}
use Rattle.papergrid_tables.proofs.BorderFound.{first_of_five}
use Rattle.papergrid_values.proofs.KeyLemmas.{get_at_number, get_at_position}
use Rattle.papergrid_tables.proofs.border_table.BorderTable.get_intersection.Goals as goal

pub returns : goal.returns
returns g c = rw (← c.self.view_is) (first_of_five _ _ _ _ _ c.or.ensures c.or-2.ensures c.or-3.ensures c.or-4.ensures
    (c.get.ensures.value ∙ sym (get_at_position c.self.inside.corners.values.entries c.args.position))
    (c.row_part.ensures ∙ ap (option_and_then (of_horizontal_line c.args.position.col c.args.shape.1)) (c.get-2.ensures.value ∙ sym (get_at_number c.self.inside.horizontal_lines.values.entries c.args.position.row)))
    (c.column_part.ensures ∙ ap (option_and_then (of_vertical_line c.args.position.row c.args.shape.0)) (c.get-3.ensures.value ∙ sym (get_at_number c.self.inside.vertical_lines.values.entries c.args.position.col)))
    c.of_frame.ensures c.as_ref.ensures.value)
