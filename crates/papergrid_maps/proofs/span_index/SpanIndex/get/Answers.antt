use Rattle.std.proofs.Common.{arith}
use Rattle.papergrid_maps.proofs.IndexKeys.{stored_at}
use Rattle.papergrid_maps.proofs.span_index.SpanIndex.get.Goals as goal

pub returns : goal.returns
returns c = grind (arith, stored_at)
