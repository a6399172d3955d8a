use Rattle.papergrid.proofs.PrintLemmas.{string-prints}
use Rattle.papergrid.proofs.peekable.PeekableGrid.to_string.Goals as goal

pub returns : goal.returns
returns g c = string-prints _ _ _ _ c.new-text.ensures.bytes c.build-drawn.result c.build-drawn.ensures c.string_of.result c.string_of.ensures
