use Rattle.std.proofs.Common.{◌+◌, ◌≤◌, subst, sym}
use Rattle.std.specs.Prelude.{◌≢◌, Err, IfOk}
use Rattle.std.specs.Option.{SomeIff}
use Rattle.papergrid_values.specs.declared.direction.Direction.TheVariants.{Columns, Rows}
use Rattle.papergrid_layout.specs.Places.{EndsWithin, IsPlaced, TableView, place_at}
use Rattle.papergrid_layout.specs.Tables.{TableParts, view_of}
use Rattle.papergrid_layout.specs.declared.rect.PlaceError.TheVariants.{TooLarge}
use Rattle.papergrid_layout.proofs.TableLemmas.{placed-in, placed-within}
use Rattle.papergrid_layout.proofs.table.Table.place.Goals as goal

-- the screen rectangle that was found, and none too large
placed : (c : goal.After-ok_or) → IsPlaced (view_of c.args.self.now) c.args.position c.ok_or.result × (c.ok_or.result ≢ Err TooLarge)
placed c =
    let p = c.args.position in
    let table : TableView = view_of (record { config = c.self.inside.config.now; widths = c.self.inside.sizes.columns.items; heights = c.self.inside.sizes.rows.items }) in
    subst (λ (t : TableParts). SomeIff c.rectangle.result
    ((p.col + (view_of t).grid.span Columns p ≤ (view_of t).shape.1) × (p.row + (view_of t).grid.span Rows p ≤ (view_of t).shape.0)) (place_at (view_of t) p) →
    IsPlaced (view_of t) p c.ok_or.result × (c.ok_or.result ≢ Err TooLarge)) c.self.view_is
    (λ found. rw c.ok_or.ensures.value (placed-in table c.self.invariant.fit p c.rectangle.result (sym c.if-not-is_visible.ensures) found))
    c.rectangle.ensures

pub returns-clause-exact : goal.returns-clause-exact
returns-clause-exact c = (placed c).0

pub returns-clause-never_large : goal.returns-clause-never_large
returns-clause-never_large c = (placed c).1

pub returns-clause-within : goal.returns-clause-within
returns-clause-within c =
    subst (λ (t : TableParts). IsPlaced (view_of t) c.args.position c.ok_or.result → IfOk c.ok_or.result (EndsWithin (view_of t))) c.self.view_is
    (placed-within (view_of (record { config = c.self.inside.config.now; widths = c.self.inside.sizes.columns.items; heights = c.self.inside.sizes.rows.items })) c.self.invariant.fit c.args.position c.ok_or.result)
    (placed c).0
