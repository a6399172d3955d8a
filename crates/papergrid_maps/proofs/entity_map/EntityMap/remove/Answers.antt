use Rattle.std.proofs.Common.{ap}
use Rattle.papergrid_maps.specs.declared.entity_map.MapCall.TheVariants.{Remove}
use Rattle.papergrid_maps.proofs.MapHistory.{history_from_step}
use Rattle.papergrid_maps.proofs.MapSteps.{step_remove_global, step_remove_column, step_remove_row, step_remove_cell}
use Rattle.papergrid_maps.proofs.entity_map.EntityMap.remove.Goals as goal

pub returns-in-Global : goal.returns-in-Global
returns-in-Global g c = rw (c.clear.ensures.empty, c.clear-in-Global.ensures.empty, c.clear-in-Global-2.ensures.empty)
    (history_from_step c.self.view_is (ap Remove c.in-Global.is) (step_remove_global _ _ _ _))

pub returns-in-Column : goal.returns-in-Column
returns-in-Column g c = rw c.drop_column.ensures (history_from_step c.self.view_is (ap Remove c.in-Column.is) (step_remove_column _ c.in-Column.col _ _ _))

pub returns-in-Row : goal.returns-in-Row
returns-in-Row g c = rw c.drop_row.ensures (history_from_step c.self.view_is (ap Remove c.in-Row.is) (step_remove_row _ c.in-Row.row _ _ _))

pub returns-in-Cell : goal.returns-in-Cell
returns-in-Cell g c = history_from_step c.self.view_is (ap Remove c.in-Cell.is) (step_remove_cell _ c.in-Cell.row c.in-Cell.col _ _ _ _ c.remove.ensures.0)
