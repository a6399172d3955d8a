use Rattle.std.proofs.Common.{◌≤◌, arith}
use Rattle.std.proofs.lemmas.List.Sums.{count_by_more_no, count_by_more_yes}
use Rattle.papergrid_tracks.proofs.CountLemmas.{count-le}
use Rattle.papergrid_tracks.proofs.lines.counts_of.Goals.{then-is_drawn, else-is_drawn}
use Rattle.papergrid_tracks.proofs.lines.counts_of.Goals as goal

pub overflow_add-count : goal.overflow_add-count
overflow_add-count c =
    let few : c.loop-is_drawn.count ≤ c.loop-is_drawn.is_drawn-index =
    count-le c.args.drawn.now c.loop-is_drawn.is_drawn-index c.loop-is_drawn.counts.items c.loop-is_drawn.count c.loop-is_drawn.invariant (omega arith) in
    omega arith

pub loop-is_drawn-preserved : goal.loop-is_drawn-preserved
loop-is_drawn-preserved c = grind (arith, then-is_drawn, count_by_more_yes, else-is_drawn, count_by_more_no)

pub returns : goal.returns
returns c = grind arith
