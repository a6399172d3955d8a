use Rattle.std.proofs.Common.{arith}
use Rattle.papergrid_maps.proofs.IndexCopies.{holds_same}
use Rattle.papergrid_maps.proofs.span_index.SpanIndex.holds_same.Goals as goal

pub returns : goal.returns
returns c = grind (arith, holds_same)
