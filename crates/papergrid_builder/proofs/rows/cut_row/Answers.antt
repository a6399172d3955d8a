use Rattle.std.proofs.Common.{◌∙◌, ◌++◌, [], ◌∷◌, ap, length, take}
use Rattle.std.specs.Prelude.{◌==◌}
use Rattle.std.specs.List.{slice_split}
use Rattle.papergrid_builder.proofs.TextLemmas.{cells_left, first-kept, row-step}
use Rattle.papergrid_builder.proofs.rows.cut_row.Goals as goal

pub loop-rest-preserved : goal.loop-rest-preserved
loop-rest-preserved c =
    let cell = c.first_piece.result.0.now in
    record {
      cut = ap (λ cells. cells ++ cells_left c.args.cell_end c.first_piece.result.1) c.in_ok-push.ensures.ok
          ∙ row-step c.args.cell_end (c.args.cells.now ++ slice_split (λ byte. byte == c.args.cell_end) c.args.row.now) c.loop-rest.cells c.loop-rest.rest c.in-Some.text cell c.first_piece.result.1
          c.loop-rest.invariant.cut c.in-Some.is c.first_piece.ensures.before c.first_piece.ensures.after;
      first = ap (take (length c.args.cells.now)) c.in_ok-push.ensures.ok ∙ first-kept c.args.cells.now c.loop-rest.cells (cell ∷ []) c.loop-rest.invariant.first;
    }
