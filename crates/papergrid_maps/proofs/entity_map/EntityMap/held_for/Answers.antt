use Rattle.std.proofs.Common.{sym, ◌∙◌}
use Rattle.papergrid_values.proofs.KeyLemmas.{get_at_number, get_at_position}
use Rattle.papergrid_maps.proofs.entity_map.EntityMap.held_for.Goals as goal

pub returns-in-Column : goal.returns-in-Column
returns-in-Column g c = rw (← c.self.view_is, c.in-Column.is) (c.look_up.ensures.value ∙ sym (get_at_number _ c.in-Column.col))

pub returns-in-Row : goal.returns-in-Row
returns-in-Row g c = rw (← c.self.view_is, c.in-Row.is) (c.look_up-in-Row.ensures.value ∙ sym (get_at_number _ c.in-Row.row))

pub returns-in-Cell : goal.returns-in-Cell
returns-in-Cell g c = rw (← c.self.view_is, c.in-Cell.is) (c.look_up-in-Cell.ensures.value ∙ sym (get_at_position _ (record { row = c.in-Cell.row; col = c.in-Cell.col })))
