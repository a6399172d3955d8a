use Rattle.papergrid_draw.specs.Drawn.{drawn_lines}
use Rattle.papergrid_draw.proofs.ColoredLemmas.{all-blocks, all-plain}
use Rattle.papergrid_draw.proofs.UncoloredLemmas.{same-uncolored}
use Rattle.papergrid_draw.proofs.laws.colors_in_blocks.Goals as goal

pub returns-clause-same : goal.returns-clause-same
returns-clause-same c = same-uncolored

pub returns-clause-blocks : goal.returns-clause-blocks
returns-clause-blocks c = λ d. all-blocks (drawn_lines d)

pub returns-clause-none : goal.returns-clause-none
returns-clause-none c = λ d. all-plain (drawn_lines d)
