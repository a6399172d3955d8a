use Rattle.std.proofs.Common.{◌≡◌, ◌∙◌, arith}
use Rattle.papergrid_layout.proofs.PlacingLemmas.{has-turned}
use Rattle.papergrid_layout.proofs.cell_rects.Placing.visit_row.Goals as goal

pub returns-clause-ok : goal.returns-clause-ok
returns-clause-ok c = λ table end has.
    let last : c.loop-col.col ≡ c.args.columns = omega arith in
    has-turned table c.args.row c.loop-col.col c.loop-col.self (last ∙ end) (c.loop-col.invariant table has)
