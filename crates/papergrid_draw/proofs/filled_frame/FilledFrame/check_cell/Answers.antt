use Rattle.std.proofs.Common.{◌≡◌, ◌∙◌, IsTrue, true, false, refl, subst, sym}
use Rattle.std.proofs.lemmas.Bool.{false≢true}
use Rattle.std.proofs.lemmas.Option.{none-some}
use Rattle.papergrid_config.specs.Grids.{spanned_grid}
use Rattle.papergrid_walk.specs.ForProofs.Shown.{anchor_in}
use Rattle.papergrid_layout.specs.Tables.{view_of}
use Rattle.papergrid_draw.specs.Contents.{FitsPlace, block_at}
use Rattle.papergrid_draw.specs.Drawings.{layout_of}
use Rattle.papergrid_draw.specs.ForProofs.FilledFrames.{filled, filled_table}
use Rattle.papergrid_draw.proofs.SheetLemmas.{told_texts}
use Rattle.papergrid_draw.proofs.RoomLemmas.{first-without, found-block, room-more, shown-of}
use Rattle.papergrid_draw.proofs.filled_frame.FilledFrame.check_cell.Goals as goal

pub returns-then-is_none-clause-shows : goal.returns-then-is_none-clause-shows
returns-then-is_none-clause-shows g c = c.in_ok-visible_anchor.ensures.later (spanned_grid (filled_table c.args.self.now).config) c.requires.shows

pub returns-then-is_none-clause-ok : goal.returns-then-is_none-clause-ok
returns-then-is_none-clause-ok g c =
    let p = c.args.position in
    let table = view_of (filled_table c.args.self.now) in
    let hidden : table.grid.shows p ≡ false =
    shown-of (table.grid.shows p) (anchor_in table.grid p) c.in_ok-visible_anchor.field-0 false (c.in_ok-visible_anchor.ensures.visible table.grid c.requires.shows) c.if-is_none.ensures in
    room-more (filled g.S.Cells.lines g.S.Cells.color c.args.self.now) p.row p.col c.requires.before
    (λ none. false≢true (sym hidden ∙ none.is_cell.visible))

pub returns-in_default-clause-shows : goal.returns-in_default-clause-shows
returns-in_default-clause-shows g c = c.in_ok-visible_anchor.ensures.later (spanned_grid (filled_table c.args.self.now).config) c.requires.shows

pub returns-in_default-clause-ok : goal.returns-in_default-clause-ok
returns-in_default-clause-ok g c =
    let p = c.args.position in
    let d = filled g.S.Cells.lines g.S.Cells.color c.args.self.now in
    let made = found-block d p _ _ _ c.args.self.now.frame.now.tiled (c.in_ok-visible_anchor.ensures.visible (layout_of d).grid c.requires.shows) c.if-is_none.ensures c.requires.row_in c.requires.col_in
    (λ inside. c.block.ensures (told_texts g.S.Cells.lines g.S.Cells.color c.args.self.now.cells.now) inside c.in_ok-cell.ensures c.color.ensures) in
    absurd (none-some _ (sym c.in_default.is ∙ made.1))

pub returns-then-not-has_room-clause-err : goal.returns-then-not-has_room-clause-err
returns-then-not-has_room-clause-err g c =
    let p = c.args.position in
    let d = filled g.S.Cells.lines g.S.Cells.color c.args.self.now in
    let made = found-block d p _ _ _ c.args.self.now.frame.now.tiled (c.in_ok-visible_anchor.ensures.visible (layout_of d).grid c.requires.shows) c.if-is_none.ensures c.requires.row_in c.requires.col_in
    (λ inside. c.block.ensures (told_texts g.S.Cells.lines g.S.Cells.color c.args.self.now.cells.now) inside c.in_ok-cell.ensures c.color.ensures) in
    let same : c.in-Some.block ≡ block_at d p = cc (made.1, c.in-Some.is) in
    let told_none : (IsTrue false → FitsPlace c.in-Some.block) × (FitsPlace c.in-Some.block → IsTrue false) = c.if-not-has_room.ensures in
    first-without d p (record { is_cell = made.0; lacks = λ room. false≢true (told_none.1 (subst FitsPlace (sym same) room)) }) c.requires.before

pub returns-clause-shows : goal.returns-clause-shows
returns-clause-shows g c = c.in_ok-visible_anchor.ensures.later (spanned_grid (filled_table c.args.self.now).config) c.requires.shows

pub returns-clause-ok : goal.returns-clause-ok
returns-clause-ok g c =
    let p = c.args.position in
    let d = filled g.S.Cells.lines g.S.Cells.color c.args.self.now in
    let made = found-block d p _ _ _ c.args.self.now.frame.now.tiled (c.in_ok-visible_anchor.ensures.visible (layout_of d).grid c.requires.shows) c.if-is_none.ensures c.requires.row_in c.requires.col_in
    (λ inside. c.block.ensures (told_texts g.S.Cells.lines g.S.Cells.color c.args.self.now.cells.now) inside c.in_ok-cell.ensures c.color.ensures) in
    let same : c.in-Some.block ≡ block_at d p = cc (made.1, c.in-Some.is) in
    let told_room : (IsTrue true → FitsPlace c.in-Some.block) × (FitsPlace c.in-Some.block → IsTrue true) = c.if-not-has_room.ensures in
    room-more d p.row p.col c.requires.before (λ none. none.lacks (subst FitsPlace same (told_room.0 refl)))
