use Rattle.std.proofs.Common.{ap, map, refl, subst, sym}
use Rattle.papergrid_config.specs.Grids.{spanned_grid}
use Rattle.papergrid_draw.specs.Drawings.{Drawing, layout_of}
use Rattle.papergrid_draw.specs.Tiles.{IsTileFault, IsTiled}
use Rattle.papergrid_draw.specs.Lined.{lined}
use Rattle.papergrid_draw.specs.Pictures.{texts_drawing}
use Rattle.papergrid_csv.specs.Pictures.{IsNarrow}
use Rattle.papergrid_csv.specs.Rows.{row_texts}
use Rattle.papergrid_csv.specs.ForProofs.Drawn.{IsTableRun}
use Rattle.papergrid_csv.proofs.DrawLemmas.{run-refused, run-silent, run-undrawn}
use Rattle.papergrid_csv.proofs.RunLemmas.{tile-fault}
use Rattle.papergrid_csv.specs.declared.run.CsvEnd.TheVariants.{TooWide}
use Rattle.papergrid_csv.proofs.run.draw_table.Goals as goal

pub returns-in-Err : goal.returns-in-Err
returns-in-Err g c =
    let table = c.args.table.now in
    let d : Drawing = texts_drawing table.config (map row_texts c.args.rows.now) table.widths table.heights in
    let fault : IsTileFault (layout_of d) c.in-Err.error = c.in-Err.ensures.err (layout_of d) (ap spanned_grid (sym c.config.ensures)) (sym c.shape.ensures) in
    rw c.end_refused.ensures
    (run-refused g.W.Sink.contents g.W.Sink.has_failed g.W.Sink.has_stalled (IsTableRun c.args.request.now.max_width d) c.args.writer.now c.in-Err.error
    (λ is. subst (IsTileFault (layout_of d)) is fault) (λ named. (named, tile-fault d c.in-Err.error fault named, refl)))

pub returns-then-is_wide : goal.returns-then-is_wide
returns-then-is_wide g c =
    let table = c.args.table.now in
    let d : Drawing = texts_drawing table.config (map row_texts c.args.rows.now) table.widths table.heights in
    let tiled : IsTiled (layout_of d) = c.in_default.ensures.ok (layout_of d) (ap spanned_grid (sym c.config.ensures)) (sym c.shape.ensures) in
    run-silent g.W.Sink.contents g.W.Sink.has_failed g.W.Sink.has_stalled (IsTableRun c.args.request.now.max_width d) c.args.writer.now (TooWide c.width-width.result)
    (tiled, c.width-width.ensures, c.if-is_wide.ensures, refl)

pub returns-in-Ok : goal.returns-in-Ok
returns-in-Ok g c =
    let table = c.args.table.now in
    let d : Drawing = texts_drawing table.config (map row_texts c.args.rows.now) table.widths table.heights in
    let tiled : IsTiled (layout_of d) = c.in_default.ensures.ok (layout_of d) (ap spanned_grid (sym c.config.ensures)) (sym c.shape.ensures) in (
      lined d,
      (tiled, subst (IsNarrow c.args.request.now.max_width) c.width-width.ensures c.if-is_wide.ensures, refl),
      record { taken = c.in-Ok.ensures.picture; silent = λ other. absurd (other refl) },
    )

pub returns-in-Err-draw_lines : goal.returns-in-Err-draw_lines
returns-in-Err-draw_lines g c =
    let table = c.args.table.now in
    let d : Drawing = texts_drawing table.config (map row_texts c.args.rows.now) table.widths table.heights in
    let tiled : IsTiled (layout_of d) = c.in_default.ensures.ok (layout_of d) (ap spanned_grid (sym c.config.ensures)) (sym c.shape.ensures) in
    rw c.end_refused-in-Err-draw_lines.ensures
    (run-undrawn g.W.Sink.contents g.W.Sink.has_failed g.W.Sink.has_stalled (IsTableRun c.args.request.now.max_width d) c.args.writer.now c.draw_lines.new.sink (lined d)
    (tiled, subst (IsNarrow c.args.request.now.max_width) c.width-width.ensures c.if-is_wide.ensures, refl) c.in-Err-draw_lines.error
    (λ named. (named, c.in-Err-draw_lines.ensures.fault, refl)) c.in-Err-draw_lines.ensures.left)
