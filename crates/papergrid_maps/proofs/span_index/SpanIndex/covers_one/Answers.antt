use Rattle.std.proofs.Common.{arith}
use Rattle.papergrid_maps.proofs.CoverLemmas.{entries_cover}
use Rattle.papergrid_maps.proofs.span_index.SpanIndex.covers_one.Goals as goal

pub returns : goal.returns
returns c = grind (arith, entries_cover)
