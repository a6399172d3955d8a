use Rattle.std.proofs.Common.{arith, subst, sym, [], ◌∷◌, ◌++◌, ◌∙◌, ◌+◌, ◌≡◌, ap, length}
use Rattle.papergrid_text.proofs.RowSteps.{zip_more}
use Rattle.papergrid_walk.specs.Cells.{positioned_cells, placed_row}
use Rattle.papergrid_walk.proofs.Steps.{counted_more, one_more_counted, placed_from-more, zip_length}
use Rattle.papergrid_walk.proofs.visitor.walk.Goals as goal

pub walk_row-requires-clause-short : goal.walk_row-requires-clause-short
walk_row-requires-clause-short g c =
    let rows = c.iter_rows-row-items.ensures.finite c.requires.lawful c.into_iter-row-iterator.result c.into_iter-row-iterator.ensures.into_iter_gives in
    rows.each c.loop-row.yielded c.loop-row.row-iterator c.in-Some.row c.next.new.self c.loop-row.yielded_by c.in-Some.ensures.steps

pub walk_row-requires-clause-row_in : goal.walk_row-requires-clause-row_in
walk_row-requires-clause-row_in g c =
    let rows = c.iter_rows-row-items.ensures.finite c.requires.lawful c.into_iter-row-iterator.result c.into_iter-row-iterator.ensures.into_iter_gives in
    omega (arith, one_more_counted rows c.loop-row.row-iterator c.next.new.self c.loop-row.yielded c.in-Some.row c.loop-row.count c.loop-row.invariant.2 c.loop-row.yielded_by c.in-Some.ensures.steps)

pub overflow_add-count : goal.overflow_add-count
overflow_add-count g c =
    let rows = c.iter_rows-row-items.ensures.finite c.requires.lawful c.into_iter-row-iterator.result c.into_iter-row-iterator.ensures.into_iter_gives in
    omega (arith, one_more_counted rows c.loop-row.row-iterator c.next.new.self c.loop-row.yielded c.in-Some.row c.loop-row.count c.loop-row.invariant.2 c.loop-row.yielded_by c.in-Some.ensures.steps)

pub loop-row-preserved : goal.loop-row-preserved
loop-row-preserved g c =
    let goes = c.in-Some.ensures.goes.on c.loop-row.invariant.1 in
    let so_far = c.loop-row.invariant.4 in
    let row = c.in_ok-walk_row.ensures.consumed in
    let many = zip_length _ c.loop-row.yielded so_far.0 so_far.1 in
    let at : 0 + length so_far.0 ≡ c.loop-row.count = omega (arith, c.loop-row.invariant.2, many) in
    let cells : positioned_cells (so_far.0 ++ row.0 ∷ []) ≡ positioned_cells so_far.0 ++ placed_row c.loop-row.count 0 row.0 =
    placed_from-more 0 so_far.0 row.0 ∙ ap (λ k. positioned_cells so_far.0 ++ placed_row k 0 row.0) at in (
      goes.0,
      goes.1,
      counted_more c.loop-row.yielded c.in-Some.row c.loop-row.count c.loop-row.invariant.2,
      c.in_ok-walk_row.ensures.ready,
      (
        so_far.0 ++ row.0 ∷ [],
        zip_more _ c.loop-row.yielded so_far.0 c.in-Some.row row.0 so_far.1 row.1,
        subst (g.V.Visitor.consumed c.args.visitor.now c.walk_row.new.visitor) (sym cells)
            (g.met.V.Visitor.append c.args.visitor.now c.loop-row.visitor c.walk_row.new.visitor _ _ so_far.2 row.2),
      ),
    )

pub returns-clause-consumed : goal.returns-clause-consumed
returns-clause-consumed g c = grind (arith, zip_length)
