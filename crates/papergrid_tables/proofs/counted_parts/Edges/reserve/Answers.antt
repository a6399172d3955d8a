use Rattle.std.proofs.Common.{arith}
use Rattle.papergrid_tables.proofs.CountLemmas.{count_reordered}
use Rattle.papergrid_tables.proofs.counted_parts.Edges.reserve.Goals as goal

pub returns-clause-counted : goal.returns-clause-counted
returns-clause-counted g c = grind (arith, count_reordered)
