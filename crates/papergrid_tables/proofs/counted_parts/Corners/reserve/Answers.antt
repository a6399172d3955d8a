use Rattle.std.proofs.Common.{arith}
use Rattle.papergrid_tables.proofs.CountLemmas.{count_reordered}
use Rattle.papergrid_tables.proofs.counted_parts.Corners.reserve.Goals as goal

pub returns-in_err-reserve-2-clause-counted : goal.returns-in_err-reserve-2-clause-counted
returns-in_err-reserve-2-clause-counted g c = grind (arith, count_reordered)

pub returns-clause-counted : goal.returns-clause-counted
returns-clause-counted g c = grind (arith, count_reordered)
