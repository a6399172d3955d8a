use Rattle.std.proofs.Common.{◌∙◌, Ok, ap, refl}
use Rattle.std.proofs.lemmas.Result.{err_from_is_err_and}
use Rattle.papergrid_draw.specs.Pictures.{Undrawn}
use Rattle.papergrid_draw.proofs.DeliveryLemmas.{begun-drawable}
use Rattle.papergrid_draw.proofs.PictureLemmas.{drawing-told, has-room, refusal-told, room-with}
use Rattle.papergrid_builder.specs.BuilderStates.{longest}
use Rattle.papergrid_builder.specs.ForProofs.Texts.{rows_lent}
use Rattle.papergrid_builder.proofs.DrawLemmas.{undrawn-refused, undrawn-unsized}
use Rattle.papergrid_builder.proofs.drawn.drawn_by.Goals as goal

pub returns-in_err-table-clause-err : goal.returns-in_err-table-clause-err
returns-in_err-table-clause-err c =
    let e = c.in_err-table.field-0.0 in
    let rows = ap (λ r. r.iter.items) c.new-records.ensures ∙ c.in_ok-from_slice.ensures.items in
    let columns = ap (λ r. r.count_columns) c.new-records.ensures ∙ c.longest_of-columns.ensures in
    let p = err_from_is_err_and c.from_residual-in_err-table.result c.from_residual-in_err-table.ensures.1 in
    rw (p.1, p.2) (undrawn-unsized c.args.config.now (rows_lent c.args.rows.now) c.args.sizing e
    (refusal-told (λ cell. cell.now) (λ text. text.now) (λ row. row.now) c.args.config.now c.args.sizing columns rows e c.in_err-table.ensures))

pub draw_lines-requires : goal.draw_lines-requires
draw_lines-requires c = λ known.
    let rows = ap (λ r. r.iter.items) c.new-records.ensures ∙ c.in_ok-from_slice.ensures.items in
    let columns = ap (λ r. r.count_columns) c.new-records.ensures ∙ c.longest_of-columns.ensures in
    let is = drawing-told (λ cell. cell.now) (λ text. text.now) (λ row. row.now) c.args.config.now c.args.sizing columns rows c.in_ok-table.table c.in_ok-table.ensures c.args.rows.now refl in
    room-with (longest (rows_lent c.args.rows.now)) (rows_lent c.args.rows.now) c.args.sizing c.args.config.now _ is

pub returns-in-Ok-clause-ok : goal.returns-in-Ok-clause-ok
returns-in-Ok-clause-ok c =
    let rows = ap (λ r. r.iter.items) c.new-records.ensures ∙ c.in_ok-from_slice.ensures.items in
    let columns = ap (λ r. r.count_columns) c.new-records.ensures ∙ c.longest_of-columns.ensures in
    let is = drawing-told (λ cell. cell.now) (λ text. text.now) (λ row. row.now) c.args.config.now c.args.sizing columns rows c.in_ok-table.table c.in_ok-table.ensures c.args.rows.now refl in
    let written = c.in-Ok.ensures.picture.bytes_are in
    (_, is, begun-drawable _ _ _ (Ok tt) (rw c.in-Ok.is at c.draw_lines.ensures.drawable), ap (λ v. v.items) c.into_bytes.ensures ∙ (rw c.new-sink.ensures.bytes at written))

pub refusal-requires : goal.refusal-requires
refusal-requires c =
    let rows = ap (λ r. r.iter.items) c.new-records.ensures ∙ c.in_ok-from_slice.ensures.items in
    let columns = ap (λ r. r.count_columns) c.new-records.ensures ∙ c.longest_of-columns.ensures in
    let is = drawing-told (λ cell. cell.now) (λ text. text.now) (λ row. row.now) c.args.config.now c.args.sizing columns rows c.in_ok-table.table c.in_ok-table.ensures c.args.rows.now refl in
    has-room (longest (rows_lent c.args.rows.now)) (rows_lent c.args.rows.now) c.args.sizing c.args.config.now c.in-Err.error (Undrawn _ is c.in-Err.ensures.fault)

pub returns-clause-err : goal.returns-clause-err
returns-clause-err c =
    let rows = ap (λ r. r.iter.items) c.new-records.ensures ∙ c.in_ok-from_slice.ensures.items in
    let columns = ap (λ r. r.count_columns) c.new-records.ensures ∙ c.longest_of-columns.ensures in
    let is = drawing-told (λ cell. cell.now) (λ text. text.now) (λ row. row.now) c.args.config.now c.args.sizing columns rows c.in_ok-table.table c.in_ok-table.ensures c.args.rows.now refl in
    rw c.refusal.ensures (undrawn-refused c.args.config.now (rows_lent c.args.rows.now) c.args.sizing c.in-Err.error (Undrawn _ is c.in-Err.ensures.fault))
