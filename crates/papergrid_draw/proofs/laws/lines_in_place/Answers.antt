use Rattle.papergrid_draw.proofs.InPlaceLemmas.{crossing-drawn, segment-drawn, vertical-drawn}
use Rattle.papergrid_draw.proofs.laws.lines_in_place.Goals as goal

pub returns-clause-vertical : goal.returns-clause-vertical
returns-clause-vertical c = vertical-drawn

pub returns-clause-horizontal : goal.returns-clause-horizontal
returns-clause-horizontal c = segment-drawn

pub returns-clause-crossing : goal.returns-clause-crossing
returns-clause-crossing c = crossing-drawn
