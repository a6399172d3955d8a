use Rattle.std.proofs.Common.{arith}
use Rattle.papergrid_maps.proofs.IndexKeys.{stored_remove}
use Rattle.papergrid_maps.proofs.span_index.SpanIndex.remove.Goals as goal

pub returns : goal.returns
returns c = grind (arith, stored_remove)
