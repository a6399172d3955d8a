use Rattle.std.proofs.Common.{arith, subst, sym, [], ◌∷◌, ◌++◌, ◌∙◌, ◌+◌, ◌≡◌, ap, length}
use Rattle.papergrid_walk.specs.Cells.{placed_row}
use Rattle.papergrid_walk.proofs.Steps.{counted_more, one_more_counted, placed_row-more}
use Rattle.papergrid_walk.proofs.visitor.walk_row.Goals as goal

pub visit-requires-clause-col_in : goal.visit-requires-clause-col_in
visit-requires-clause-col_in g c =
    let short = c.requires.short c.into_iter-cell-iterator.result c.into_iter-cell-iterator.ensures.into_iter_gives in
    omega (arith, one_more_counted short c.loop-cell.cell-iterator c.next.new.self c.loop-cell.yielded c.in-Some.cell c.loop-cell.column c.loop-cell.invariant.2 c.loop-cell.yielded_by c.in-Some.ensures.steps)

pub overflow_add-column : goal.overflow_add-column
overflow_add-column g c =
    let short = c.requires.short c.into_iter-cell-iterator.result c.into_iter-cell-iterator.ensures.into_iter_gives in
    omega (arith, one_more_counted short c.loop-cell.cell-iterator c.next.new.self c.loop-cell.yielded c.in-Some.cell c.loop-cell.column c.loop-cell.invariant.2 c.loop-cell.yielded_by c.in-Some.ensures.steps)

pub loop-cell-preserved : goal.loop-cell-preserved
loop-cell-preserved g c =
    let goes = c.in-Some.ensures.goes.on c.loop-cell.invariant.1 in
    let at : 0 + length c.loop-cell.yielded ≡ c.loop-cell.column = omega (arith, c.loop-cell.invariant.2) in
    let cells : placed_row c.args.number 0 (c.loop-cell.yielded ++ c.in-Some.cell ∷ [])
    ≡ placed_row c.args.number 0 c.loop-cell.yielded ++ (record { row = c.args.number; col = c.loop-cell.column }, c.in-Some.cell) ∷ [] =
    placed_row-more c.args.number 0 c.loop-cell.yielded c.in-Some.cell
    ∙ ap (λ k. placed_row c.args.number 0 c.loop-cell.yielded ++ (record { row = c.args.number; col = k }, c.in-Some.cell) ∷ []) at in (
      goes.0,
      goes.1,
      counted_more c.loop-cell.yielded c.in-Some.cell c.loop-cell.column c.loop-cell.invariant.2,
      c.in_ok-visit.ensures.ready,
      subst (g.V.Visitor.consumed c.args.visitor.now c.visit.new.self) (sym cells)
          (g.met.V.Visitor.append c.args.visitor.now c.loop-cell.visitor c.visit.new.self _ _ c.loop-cell.invariant.4 c.in_ok-visit.ensures.consumed),
    )
