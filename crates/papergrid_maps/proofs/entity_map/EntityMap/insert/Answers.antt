use Rattle.std.proofs.Common.{ap, refl, ◌∙◌, cond, Some}
use Rattle.std.specs.HashMap.{get}
use Rattle.std.specs.Set.{is_member}
use Rattle.papergrid_values.specs.MapKeys.{position_eq}
use Rattle.papergrid_maps.specs.declared.entity_map.MapCall.TheVariants.{Insert}
use Rattle.papergrid_values.proofs.ResultLemmas.{on_err_map, on_ok_map}
use Rattle.papergrid_maps.proofs.MapHistory.{history_from_step}
use Rattle.papergrid_maps.proofs.MapSteps.{same_view, step_insert_global, step_insert_column, step_insert_row, step_insert_cell}
use Rattle.papergrid_maps.proofs.entity_map.EntityMap.insert.Goals as goal

pub returns-in-Global-clause-ok : goal.returns-in-Global-clause-ok
returns-in-Global-clause-ok g c = rw (c.clear.ensures.empty, c.clear-in-Global.ensures.empty, c.clear-in-Global-2.ensures.empty)
    (history_from_step c.self.view_is (ap (λ e. Insert e c.args.value) c.in-Global.is) (step_insert_global _ _ _ _ _))

pub returns-in_ok-crossings-in-Column-clause-ok : goal.returns-in_ok-crossings-in-Column-clause-ok
returns-in_ok-crossings-in-Column-clause-ok g c = on_ok_map c.write_line.result (λ written.
    history_from_step c.self.view_is (ap (λ e. Insert e c.args.value) c.in-Column.is)
    (step_insert_column _ c.args.value c.in-Column.col _ _ _ _ _ written.0
    (λ p. written.1 p ∙ ap (λ positions. cond (is_member position_eq positions p) (Some c.args.value) (get position_eq c.self.inside.cells p)) c.in_ok-crossings-in-Column.ensures)))
    c.write_line.ensures.ok

pub returns-in_ok-crossings-in-Column-clause-err : goal.returns-in_ok-crossings-in-Column-clause-err
returns-in_ok-crossings-in-Column-clause-err g c =
    on_err_map c.write_line.result (λ same. same_view _ _ _ _ _ _ _ same.0 (λ r. refl) same.1 ∙ c.self.view_is) c.write_line.ensures.err

pub returns-in_ok-crossings-in-Row-clause-ok : goal.returns-in_ok-crossings-in-Row-clause-ok
returns-in_ok-crossings-in-Row-clause-ok g c = on_ok_map c.write_line-in-Row.result (λ written.
    history_from_step c.self.view_is (ap (λ e. Insert e c.args.value) c.in-Row.is)
    (step_insert_row _ c.args.value c.in-Row.row _ _ _ _ _ written.0
    (λ p. written.1 p ∙ ap (λ positions. cond (is_member position_eq positions p) (Some c.args.value) (get position_eq c.self.inside.cells p)) c.in_ok-crossings-in-Row.ensures)))
    c.write_line-in-Row.ensures.ok

pub returns-in_ok-crossings-in-Row-clause-err : goal.returns-in_ok-crossings-in-Row-clause-err
returns-in_ok-crossings-in-Row-clause-err g c =
    on_err_map c.write_line-in-Row.result (λ same. same_view _ _ _ _ _ _ _ (λ c. refl) same.0 same.1 ∙ c.self.view_is) c.write_line-in-Row.ensures.err

pub returns-in-Cell-clause-ok : goal.returns-in-Cell-clause-ok
returns-in-Cell-clause-ok g c = on_ok_map c.write.result (λ updates.
    history_from_step c.self.view_is (ap (λ e. Insert e c.args.value) c.in-Cell.is)
    (step_insert_cell _ c.args.value c.in-Cell.row c.in-Cell.col _ _ _ _ updates.0))
    c.write.ensures.ok
