use Rattle.papergrid_draw.proofs.WidthLemmas.{lines-wide}
use Rattle.papergrid_draw.proofs.laws.lines_as_wide.Goals as goal

pub returns : goal.returns
returns c = λ d tiled room honest separated apart. lines-wide d tiled honest separated apart room
