use Rattle.std.proofs.Common.{◌≡◌, refl, subst}
use Rattle.papergrid_values.specs.declared.entity.Entity.TheVariants.{Global}
use Rattle.papergrid_maps.specs.StoredMap.{HoldsValue}
use Rattle.papergrid_maps.proofs.AnyStored.{all_stored, stored_in_cells, stored_in_columns, stored_in_rows, on_false_map, on_true_map}
use Rattle.papergrid_maps.proofs.entity_map.EntityMap.any_held_by.Goals as goal

pub returns-then-f-clause-yes : goal.returns-then-f-clause-yes
returns-then-f-clause-yes g c = rw (← c.self.view_is)
    (c.self.inside.global, (Global, refl), record { shown = _; shows = refl; says = record { met = c.if-f.ensures } })

pub returns-then-any_value-clause-yes : goal.returns-then-any_value-clause-yes
returns-then-any_value-clause-yes g c = rw (← c.self.view_is) (stored_in_columns _ _ _ _ _ c.any_value.ensures.unique c.if-any_value.ensures.yes)

pub returns-then-any_value-2-clause-yes : goal.returns-then-any_value-2-clause-yes
returns-then-any_value-2-clause-yes g c = rw (← c.self.view_is) (stored_in_rows _ _ _ _ _ c.any_value-2.ensures.unique c.if-any_value-2.ensures.yes)

pub returns-clause-yes : goal.returns-clause-yes
returns-clause-yes g c = rw (← c.self.view_is)
    (on_true_map c.any_value-3.result (stored_in_cells _ _ _ _ _ c.any_value-3.ensures.unique) c.any_value-3.ensures.yes)

pub returns-clause-no : goal.returns-clause-no
returns-clause-no g c = rw (← c.self.view_is)
    (on_false_map c.any_value-3.result (all_stored _ _ _ _ _ (record { shown = _; shows = refl; says = record { met = c.if-f.ensures } }) c.if-any_value.ensures.no c.if-any_value-2.ensures.no) c.any_value-3.ensures.no)

pub any_value-requires : goal.any_value-requires
any_value-requires g c distinct lent any =
    let found = stored_in_columns c.self.inside.global c.self.inside.columns.entries c.self.inside.rows.entries c.self.inside.cells.entries (λ v. v ≡ lent.now) distinct any in
    c.requires lent (subst (λ stored. HoldsValue stored lent.now) c.self.view_is (subst (HoldsValue _) found.2 found.1))

pub any_value-requires-2 : goal.any_value-requires-2
any_value-requires-2 g c distinct lent any =
    let found = stored_in_rows c.self.inside.global c.self.inside.columns.entries c.self.inside.rows.entries c.self.inside.cells.entries (λ v. v ≡ lent.now) distinct any in
    c.requires lent (subst (λ stored. HoldsValue stored lent.now) c.self.view_is (subst (HoldsValue _) found.2 found.1))

pub any_value-requires-3 : goal.any_value-requires-3
any_value-requires-3 g c distinct lent any =
    let found = stored_in_cells c.self.inside.global c.self.inside.columns.entries c.self.inside.rows.entries c.self.inside.cells.entries (λ v. v ≡ lent.now) distinct any in
    c.requires lent (subst (λ stored. HoldsValue stored lent.now) c.self.view_is (subst (HoldsValue _) found.2 found.1))
