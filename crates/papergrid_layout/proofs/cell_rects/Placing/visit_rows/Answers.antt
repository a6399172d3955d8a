use Rattle.std.proofs.Common.{◌≡◌, ap, arith, subst}
use Rattle.std.proofs.lemmas.Result.{err_from_is_err_and}
use Rattle.papergrid_layout.specs.ForProofs.Placing.{ArePlacedBefore}
use Rattle.papergrid_layout.proofs.PlacingLemmas.{all-placed}
use Rattle.papergrid_layout.proofs.cell_rects.Placing.visit_rows.Goals as goal

pub returns-in_err-visit_row-clause-err : goal.returns-in_err-visit_row-clause-err
returns-in_err-visit_row-clause-err c = grind (arith, err_from_is_err_and)

pub returns-clause-ok : goal.returns-clause-ok
returns-clause-ok c = λ table same has.
    let rows : c.args.shape.0 ≡ table.shape.0 = ap (λ s. s.0) same in
    let last : c.loop-row.row ≡ table.shape.0 = omega (arith, rows) in
    all-placed table c.loop-row.self.places.items
    (subst (λ r. ArePlacedBefore table r 0 c.loop-row.self.places.items) last (c.loop-row.invariant table same has).list)
