use Rattle.std.proofs.Common.{◌≡◌, ◌∙◌, ◌++◌, [], ◌∷◌, ap, append_assoc, arith, get_or, length, subst, sym}
use Rattle.std.specs.Prelude.{slice_range, unwrap_or}
use Rattle.std.proofs.lemmas.List.{length-map, map-append}
use Rattle.papergrid_builder.specs.ForProofs.Texts.{AreStarts, rows_lent, rows_told, texts_lent}
use Rattle.papergrid_builder.proofs.TextLemmas.{first-end, first-or, range-map, rows-first, starts-rest}
use Rattle.papergrid_builder.proofs.rows.rows_of.Goals as goal

pub row_between-requires-clause-within : goal.row_between-requires-clause-within
row_between-requires-clause-within c =
    let n = length c.args.texts.now in
    let start = c.in-Some.field-0-0.now in
    let after = c.in-Some.after.now in
    let starts = subst (AreStarts n) c.in-Some.ensures.cases.0 c.loop-start.invariant.starts in
    let end : c.unwrap_or-end.result ≡ get_or after 0 n = c.unwrap_or-end.ensures ∙ ap (λ o. unwrap_or o n) (c.copied.ensures ∙ c.first.ensures.value) ∙ first-or after n in
    omega (arith, end, (first-end n start after starts).1)

pub loop-start-preserved : goal.loop-start-preserved
loop-start-preserved c =
    let texts = c.args.texts.now in
    let cells = texts_lent texts in
    let n = length texts in
    let start = c.in-Some.field-0-0.now in
    let after = c.in-Some.after.now in
    let starts = subst (AreStarts n) c.in-Some.ensures.cases.0 c.loop-start.invariant.starts in
    let end : c.unwrap_or-end.result ≡ get_or after 0 n = c.unwrap_or-end.ensures ∙ ap (λ o. unwrap_or o n) (c.copied.ensures ∙ c.first.ensures.value) ∙ first-or after n in
    let counted = subst (λ count. AreStarts count (start ∷ after)) (sym (length-map texts (λ text. text.now))) starts in
    let row : texts_lent c.row_between.result.now ≡ slice_range cells start (get_or after 0 (length cells)) =
    ap texts_lent (c.row_between.ensures ∙ ap (slice_range texts start) end) ∙ sym (range-map (λ text. text.now) texts start (get_or after 0 n))
    ∙ ap (λ m. slice_range cells start (get_or after 0 m)) (sym (length-map texts (λ text. text.now))) in
    record {
      rows = ap (λ rows. rows_lent rows ++ rows_told cells after) c.in_ok-push.ensures.items
          ∙ ap (λ rows. rows ++ rows_told cells after) (map-append (λ row. texts_lent row.now) c.loop-start.rows.items (c.row_between.result ∷ []))
          ∙ append_assoc (rows_lent c.loop-start.rows.items) (texts_lent c.row_between.result.now ∷ []) (rows_told cells after)
          ∙ ap (λ row. rows_lent c.loop-start.rows.items ++ row ∷ rows_told cells after) row
          ∙ ap (λ rows. rows_lent c.loop-start.rows.items ++ rows) (sym (rows-first cells start after counted))
          ∙ ap (λ left. rows_lent c.loop-start.rows.items ++ rows_told cells left) (sym c.in-Some.ensures.cases.0)
          ∙ c.loop-start.invariant.rows;
      starts = starts-rest n start after starts;
    }
