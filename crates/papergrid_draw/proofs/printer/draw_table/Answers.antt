use Rattle.std.proofs.Common.{◌≢◌, ap, length, subst, sym}
use Rattle.std.specs.List.{join_with_byte}
use Rattle.std.proofs.lemmas.Result.{err_from_is_err_and}
use Rattle.papergrid_config.specs.Grids.{spanned_grid}
use Rattle.papergrid_layout.specs.Tables.{TableParts, view_of}
use Rattle.papergrid_draw.specs.Drawings.{drawn_of}
use Rattle.papergrid_draw.specs.Faults.{AllHaveRoom}
use Rattle.papergrid_draw.specs.Margins.{printed_lines}
use Rattle.papergrid_draw.specs.Deliveries.{Draws}
use Rattle.papergrid_draw.proofs.DeliveryLemmas.{draws-refused}
use Rattle.papergrid_draw.proofs.RefusalLemmas.{memory-refusal, tile-refusal}
use Rattle.papergrid_draw.proofs.printer.draw_table.Goals as goal

pub returns-in_err-check_tiles : goal.returns-in_err-check_tiles
returns-in_err-check_tiles g c =
    let d = drawn_of g.S.Cells.lines g.S.Cells.color c.args.table.now c.args.cells.now in
    let p = err_from_is_err_and c.from_residual.result c.from_residual.ensures.1 in
    rw (p.1, p.2) (draws-refused g.D.Delivery.takes g.D.Delivery.breaks _ d _ _
    (tile-refusal d _ (c.in_err-check_tiles.ensures.err (view_of c.args.table.now) (ap spanned_grid (sym c.config.ensures)) (sym c.shape.ensures))))

pub returns-in_err-frame : goal.returns-in_err-frame
returns-in_err-frame g c =
    let d = drawn_of g.S.Cells.lines g.S.Cells.color c.args.table.now c.args.cells.now in
    let p = err_from_is_err_and c.from_residual-in_err-frame.result c.from_residual-in_err-frame.ensures.1 in
    rw (p.1, p.2) (draws-refused g.D.Delivery.takes g.D.Delivery.breaks _ d _ _ (memory-refusal d _))

pub new-requires : goal.new-requires
new-requires g c = c.in_ok-check_tiles.ensures.ok (view_of c.args.table.now) (ap spanned_grid (sym c.config.ensures)) (sym c.shape.ensures)

pub draw_tiled-requires : goal.draw_tiled-requires
draw_tiled-requires g c = record {
  some = subst (λ (t : TableParts). (length t.heights ≢ 0) × (length t.widths ≢ 0)) (sym c.in_ok-frame.ensures) c.requires.some;
  room = λ known. subst (λ (t : TableParts). AllHaveRoom (drawn_of g.S.Cells.lines g.S.Cells.color t c.args.cells.now)) (sym c.in_ok-frame.ensures) (c.requires.room known);
}

pub returns : goal.returns
returns g c =
    subst (λ (t : TableParts). Draws g.D.Delivery.takes g.D.Delivery.breaks (drawn_of g.S.Cells.lines g.S.Cells.color t c.args.cells.now) c.args.writer.now c.draw_tiled.new.writer
    (join_with_byte 10 (printed_lines (drawn_of g.S.Cells.lines g.S.Cells.color t c.args.cells.now))) c.draw_tiled.result) c.in_ok-frame.ensures c.draw_tiled.ensures
