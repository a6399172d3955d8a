use Rattle.std.proofs.Common.{◌≡◌, ◌↔◌, ◌<◌, IsTrue, false, is_some, length, ap, refl, subst, sym}
use Rattle.papergrid_maps.specs.declared.anchors.Anchor.{Anchor}
use Rattle.papergrid_config.specs.Grids.{spanned_grid}
use Rattle.papergrid_walk.specs.ForProofs.Shown.{anchor_in}
use Rattle.papergrid_layout.specs.Places.{IsVisibleCell}
use Rattle.papergrid_layout.specs.Tables.{view_of}
use Rattle.papergrid_draw.specs.ForProofs.Apart.{IsCellApartAfter}
use Rattle.papergrid_draw.proofs.ApartLemmas.{anchor-found, tested-hidden, tested-shown}
use Rattle.papergrid_draw.proofs.RoomLemmas.{shown-of}
use Rattle.papergrid_draw.proofs.separated.cell_apart.Goals as goal

pub returns-in_default-clause-shows : goal.returns-in_default-clause-shows
returns-in_default-clause-shows c = c.in_ok-anchor.ensures.later (spanned_grid c.args.table.now.config) c.requires.shows

pub returns-in_default-clause-apart : goal.returns-in_default-clause-apart
returns-in_default-clause-apart c =
    let p = c.args.position in
    let table = view_of c.args.table.now in
    let hidden : table.grid.shows p ≡ false =
    shown-of (table.grid.shows p) (anchor_in table.grid p) c.in_ok-anchor.field-0 false (c.in_ok-anchor.ensures.visible table.grid c.requires.shows) (ap is_some c.in_default.is) in
    tested-hidden table p hidden

pub is_apart_after-requires-clause-col_in : goal.is_apart_after-requires-clause-col_in
is_apart_after-requires-clause-col_in c =
    let p = c.args.position in
    let table = view_of c.args.table.now in
    let found = anchor-found table p c.in-Some.anchor c.in_ok-anchor.field-0 (c.in_ok-anchor.ensures.visible table.grid c.requires.shows) c.in-Some.is in
    subst (λ (a : Anchor). a.position.col < length c.args.table.now.widths) (sym found.1) c.requires.col_in

pub is_apart_after-requires-clause-spans : goal.is_apart_after-requires-clause-spans
is_apart_after-requires-clause-spans c =
    let p = c.args.position in
    let table = view_of c.args.table.now in
    let found = anchor-found table p c.in-Some.anchor c.in_ok-anchor.field-0 (c.in_ok-anchor.ensures.visible table.grid c.requires.shows) c.in-Some.is in
    subst (λ (a : Anchor). a ≡ anchor_in table.grid a.position) (sym found.1) refl

pub returns-clause-shows : goal.returns-clause-shows
returns-clause-shows c = c.in_ok-anchor.ensures.later (spanned_grid c.args.table.now.config) c.requires.shows

pub returns-clause-apart : goal.returns-clause-apart
returns-clause-apart c =
    let p = c.args.position in
    let table = view_of c.args.table.now in
    let found = anchor-found table p c.in-Some.anchor c.in_ok-anchor.field-0 (c.in_ok-anchor.ensures.visible table.grid c.requires.shows) c.in-Some.is in
    let cell : IsVisibleCell table p = record { visible = found.0; row_in = c.requires.row_in; col_in = c.requires.col_in } in
    let after : IsTrue c.is_apart_after.result ↔ IsCellApartAfter table p =
    subst (λ (a : Anchor). IsTrue c.is_apart_after.result ↔ IsCellApartAfter table a.position) found.1 c.is_apart_after.ensures in
    tested-shown table p (record { before = c.is_apart_before.result; after = c.is_apart_after.result }) cell c.is_apart_before.ensures after
