use Rattle.std.proofs.Common.{◌++◌, ◌∷◌, [], arith, refl, sym, ap, ◌∙◌, length-append, rules}
use Rattle.papergrid_text.specs.Text.{text_width}
use Rattle.papergrid_layout_checks.proofs.ColumnWidths.{widen-none, step-cell, step-row, at_the_end}
use Rattle.papergrid_text.proofs.RowSteps.{one_more_fits, zip_more}
use Rattle.papergrid_layout_checks.proofs.tests.consumer.widest.Goals as goal

pub rows-init : goal.rows-init
rows-init g c =
    let short = c.iter_rows-row-items.ensures.finite c.requires c.into_iter-row-iterator.result c.into_iter-row-iterator.ensures.into_iter_gives in
    (short.may_start, short.ends, ([], tt, search rules))

pub cells-init : goal.cells-init
cells-init g c =
    let rows = c.iter_rows-row-items.ensures.finite c.requires c.into_iter-row-iterator.result c.into_iter-row-iterator.ensures.into_iter_gives in
    let short = rows.each c.rows.yielded c.rows.row-iterator c.in-Some.row c.next.new.self c.rows.yielded_by c.in-Some.ensures.steps c.into_iter-cell-iterator.result c.into_iter-cell-iterator.ensures.into_iter_gives in
    (short.may_start, short.ends, refl, sym (widen-none c.rows.widths.items))

pub overflow_add-column : goal.overflow_add-column
overflow_add-column g c =
    let rows = c.iter_rows-row-items.ensures.finite c.requires c.into_iter-row-iterator.result c.into_iter-row-iterator.ensures.into_iter_gives in
    let short = rows.each c.rows.yielded c.rows.row-iterator c.in-Some.row c.next.new.self c.rows.yielded_by c.in-Some.ensures.steps c.into_iter-cell-iterator.result c.into_iter-cell-iterator.ensures.into_iter_gives in
    let n = one_more_fits short c.cells.cell-iterator c.next-in-cells.new.self c.cells.yielded c.in-Some-cell.cell c.cells.yielded_by c.in-Some-cell.ensures.steps in
    let e = c.cells.invariant.2 in
    omega arith

pub cells-preserved : goal.cells-preserved
cells-preserved g c =
    let goes = c.in-Some-cell.ensures.goes.on c.cells.invariant.1 in
    let same = c.cells.invariant.2 in
    let n = length-append c.cells.yielded (c.in-Some-cell.cell ∷ []) in (
      goes.0,
      goes.1,
      omega arith,
      step-cell _ c.rows.widths.items c.cells.widths.items _ c.cells.yielded c.in-Some-cell.cell c.cells.column c.get_text_width.result c.cells.invariant.3 same (c.get_text_width.ensures ∙ ap text_width c.as_str.ensures) c.raise.ensures,
    )

pub rows-preserved : goal.rows-preserved
rows-preserved g c =
    let goes = c.in-Some.ensures.goes.on c.rows.invariant.1 in
    let so_far = c.rows.invariant.2 in (
      goes.0,
      goes.1,
      (
        so_far.0 ++ c.cells.yielded ∷ [],
        zip_more _ c.rows.yielded so_far.0 c.in-Some.row c.cells.yielded so_far.1 record { iterator = c.into_iter-cell-iterator.result; made = c.into_iter-cell-iterator.ensures.into_iter_gives; walked = (c.next-in-cells.new.self, (c.cells.cell-iterator, c.cells.yielded_by, c.in-None-cell.ensures.steps)) },
        step-row _ _ c.rows.widths.items _ so_far.0 c.cells.yielded so_far.2 c.cells.invariant.3,
      ),
    )

pub returns : goal.returns
returns g c =
    let so_far = c.rows.invariant.2 in
    (so_far.0, c.iter_rows-row-items.ensures.told so_far.0 record { rows = c.rows.yielded; walk = record { iterator = c.into_iter-row-iterator.result; made = c.into_iter-row-iterator.ensures.into_iter_gives; walked = (c.next.new.self, (c.rows.row-iterator, c.rows.yielded_by, c.in-None.ensures.steps)) }; each = so_far.1 }, at_the_end _ _ _ so_far.0 _ so_far.2 c.count_columns-columns.ensures)
