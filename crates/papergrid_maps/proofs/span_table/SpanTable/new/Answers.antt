use Rattle.std.proofs.Common.{arith}
use Rattle.papergrid_maps.proofs.BothStored.{none_both}
use Rattle.papergrid_maps.proofs.SpanHistory.{new_history, none_from_two}
use Rattle.papergrid_maps.proofs.span_table.SpanTable.new.Goals as goal

pub invariant_of-result : goal.invariant_of-result
invariant_of-result c = grind (arith, none_from_two, none_both)

pub returns : goal.returns
returns c = rw (c.new.ensures, c.new-2.ensures) new_history
