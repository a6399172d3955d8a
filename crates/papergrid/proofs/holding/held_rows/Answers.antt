use Rattle.std.proofs.Common.{arith}
use Rattle.papergrid.proofs.HeldLemmas.{zip_pushed}
use Rattle.papergrid.proofs.holding.held_rows.Goals as goal

pub held_row-requires : goal.held_row-requires
held_row-requires g c =
    let rows = c.iter_rows-row-items.ensures.finite c.requires c.into_iter-row-iterator.result c.into_iter-row-iterator.ensures.into_iter_gives in
    rows.each c.loop-row.yielded c.loop-row.row-iterator c.in-Some.row c.next.new.self c.loop-row.yielded_by c.in-Some.ensures.steps

pub loop-row-preserved : goal.loop-row-preserved
loop-row-preserved g c = grind (arith, zip_pushed)
