use Rattle.std.proofs.Common.{◌<◌, ap, length, subst}
use Rattle.std.specs.Prelude.{◌^◌, IfErr, IfOk, slice_index}
use Rattle.papergrid_values.specs.declared.direction.Direction.{Direction}
use Rattle.papergrid_layout.specs.Places.{ArePlacesRefused, HaveAllPlaces, table_by, total_along}
use Rattle.papergrid_layout.specs.Tables.{TableParts, view_of}
use Rattle.papergrid_layout.proofs.TableLemmas.{never-too-large}
use Rattle.papergrid_layout.proofs.table.Table.places.Goals as goal

pub returns-clause-ok : goal.returns-clause-ok
returns-clause-ok c =
    let t = c.args.self.now in
    subst (λ config. IfOk c.places.result (λ places. HaveAllPlaces (table_by config (slice_index t.widths) (slice_index t.heights) (length t.heights, length t.widths)) places.items))
    (ap (λ (t : TableParts). t.config) c.self.view_is) (rw c.shape.ensures at c.places.ensures.ok)

pub returns-clause-err : goal.returns-clause-err
returns-clause-err c =
    let t = c.args.self.now in
    subst (λ config. IfErr c.places.result (ArePlacesRefused (table_by config (slice_index t.widths) (slice_index t.heights) (length t.heights, length t.widths))))
    (ap (λ (t : TableParts). t.config) c.self.view_is) (rw c.shape.ensures at c.places.ensures.err)

pub returns-clause-never_large : goal.returns-clause-never_large
returns-clause-never_large c =
    never-too-large (view_of c.args.self.now) (subst (λ (t : TableParts). (direction : Direction) → total_along (view_of t) direction < 2 ^ 64) c.self.view_is c.self.invariant.fit) c.places.result
    (returns-clause-err c)
