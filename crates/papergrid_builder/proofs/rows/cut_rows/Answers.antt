use Rattle.std.proofs.Common.{◌≡◌, ◌∙◌, ◌<◌, ◌++◌, [], ◌∷◌, ap, arith, length, length-append, refl, subst, sym, take}
use Rattle.std.specs.Prelude.{◌==◌}
use Rattle.std.specs.List.{slice_split}
use Rattle.std.proofs.lemmas.Bool.Decides.{nat_tests}
use Rattle.papergrid_builder.specs.BuilderStates.{rows_in}
use Rattle.papergrid_builder.specs.ForProofs.Texts.{AreStarts, rows_told}
use Rattle.papergrid_builder.proofs.TextLemmas.{first-kept, rows-more, rows-step, starts-more}
use Rattle.papergrid_builder.proofs.rows.cut_rows.Goals as goal

pub loop-rest-preserved : goal.loop-rest-preserved
loop-rest-preserved c =
    let cells = c.loop-rest.cells in
    let starts = c.loop-rest.starts.items in
    let row = slice_split (λ byte. byte == c.args.cell_end) c.first_piece.result.0.now in
    let pushed : c.push.new.self.items ≡ starts ++ length cells ∷ [] = c.in_ok-push.ensures.items ∙ ap (λ n. starts ++ n ∷ []) c.len.ensures in
    let cut : c.cut_row.new.cells ≡ cells ++ row = c.in_ok-cut_row.ensures.ok in
    let some : 0 < length c.loop-rest.rest.now = grind (arith, nat_tests, c.loop-rest-test.true, c.is_empty.ensures) in
    record {
      utf8 = c.unwrap_or-rest.utf8;
      cut = ap (λ rows. rows ++ rows_in c.args.cell_end c.args.row_end c.unwrap_or-rest.result.now)
          ((λ i. rows_told (cut i) (pushed i)) ∙ rows-more cells row starts c.loop-rest.invariant.starts)
          ∙ rows-step c.args.cell_end c.args.row_end (rows_told c.args.cells.now c.args.starts.now.items ++ rows_in c.args.cell_end c.args.row_end c.args.text.now)
          (rows_told cells starts) c.loop-rest.rest.now c.first_piece.result.0.now c.first_piece.result.1 _ c.unwrap_or-rest.result
          c.loop-rest.invariant.cut some c.first_piece.ensures.before c.first_piece.ensures.after refl c.unwrap_or-rest.ensures;
      starts = subst (AreStarts (length c.cut_row.new.cells)) (sym pushed)
          (starts-more (length cells) (length c.cut_row.new.cells) starts (omega (arith, ap length cut, length-append cells row)) c.loop-rest.invariant.starts);
      cells_first = ap (take (length c.args.cells.now)) cut ∙ first-kept c.args.cells.now cells row c.loop-rest.invariant.cells_first;
      starts_first = ap (take (length c.args.starts.now.items)) pushed ∙ first-kept c.args.starts.now.items starts (length cells ∷ []) c.loop-rest.invariant.starts_first;
    }
