use Rattle.std.proofs.Common.{◌≡◌, ◌+◌, ◌≤◌, subst}
use Rattle.std.specs.Option.{SomeIff}
use Rattle.papergrid_maps.specs.declared.anchors.Anchor.{Anchor}
use Rattle.papergrid_values.specs.declared.direction.Direction.TheVariants.{Columns, Rows}
use Rattle.papergrid_walk.specs.ForProofs.Shown.{anchor_in}
use Rattle.papergrid_layout.specs.Places.{TableView, place_at}
use Rattle.papergrid_layout.specs.Tables.{TableParts, view_of}
use Rattle.papergrid_layout.proofs.table.Table.rectangle.Goals as goal

pub returns : goal.returns
returns c =
    let table : TableView = view_of (record { config = c.self.inside.config.now; widths = c.self.inside.sizes.columns.items; heights = c.self.inside.sizes.rows.items }) in
    let anchor : Anchor = record { position = c.args.position; rows = c.span.result; cols = c.span-2.result } in
    let own : anchor ≡ anchor_in table.grid c.args.position = λ k. record { position = c.args.position; rows = c.span.ensures.value k; cols = c.span-2.ensures.value k } in
    subst (λ (t : TableParts). SomeIff c.place_of.result
    ((c.args.position.col + (view_of t).grid.span Columns c.args.position ≤ (view_of t).shape.1)
    × (c.args.position.row + (view_of t).grid.span Rows c.args.position ≤ (view_of t).shape.0))
    (place_at (view_of t) c.args.position)) c.self.view_is
    (subst (λ (a : Anchor). SomeIff c.place_of.result
    ((a.position.col + a.cols ≤ table.shape.1) × (a.position.row + a.rows ≤ table.shape.0)) (place_at table a.position))
    own (c.place_of.ensures table c.self.invariant.marked own))
