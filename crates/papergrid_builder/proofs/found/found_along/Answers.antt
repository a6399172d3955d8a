use Rattle.std.proofs.Common.{◌∙◌, ap, map}
use Rattle.std.proofs.lemmas.Result.{err_from_is_err_and}
use Rattle.papergrid_text.proofs.RowSteps.{told_by}
use Rattle.papergrid_draw.proofs.PictureLemmas.{refusal-told}
use Rattle.papergrid_builder.specs.ForProofs.Texts.{rows_lent}
use Rattle.papergrid_builder.proofs.DrawLemmas.{found-told, unfound-unsized}
use Rattle.papergrid_builder.proofs.found.found_along.Goals as goal

pub returns-in_err-certify-clause-err : goal.returns-in_err-certify-clause-err
returns-in_err-certify-clause-err c =
    let e = c.in_err-certify.field-0.0 in
    let rows = ap (λ r. r.iter.items) c.new-records.ensures ∙ c.in_ok-from_slice.ensures.items in
    let columns = ap (λ r. r.count_columns) c.new-records.ensures ∙ c.longest_of-columns.ensures in
    let p = err_from_is_err_and c.from_residual-in_err-certify.result c.from_residual-in_err-certify.ensures.1 in
    rw (p.1, p.2) (unfound-unsized c.args.config.now (rows_lent c.args.rows.now) c.args.sizing e
    (refusal-told (λ cell. cell.now) (λ text. text.now) (λ row. row.now) c.args.config.now c.args.sizing columns rows e c.in_err-certify.ensures))

pub returns-clause-ok : goal.returns-clause-ok
returns-clause-ok c =
    let rows = ap (λ r. r.iter.items) c.new-records.ensures ∙ c.in_ok-from_slice.ensures.items in
    let columns = ap (λ r. r.count_columns) c.new-records.ensures ∙ c.longest_of-columns.ensures in
    let told = c.in_ok-certify.ensures in
    let same = told_by (λ cell. cell.now) (λ text. text.now) (λ row. row.now) told.0 c.args.rows.now (told.1 ∙ ap (map (λ row. row.now)) rows) in
    found-told (λ cell. cell.now.now) c.args.config.now c.args.sizing told.0 (rows_lent c.args.rows.now) same _ columns c.in_ok-certify.field-0 told.2
