use Rattle.std.proofs.Common.{arith}
use Rattle.std.proofs.lemmas.List.{length-set, take_all}
use Rattle.papergrid_walk.proofs.FilterLemmas.{one_more}
use Rattle.papergrid_walk.proofs.position_filter.set_marks.Goals as goal

pub loop-position-preserved : goal.loop-position-preserved
loop-position-preserved c = grind (arith, length-set, one_more)

pub returns-clause-set : goal.returns-clause-set
returns-clause-set c = grind (arith, take_all)
