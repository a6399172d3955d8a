use Rattle.papergrid_config.proofs.FoundLemmas.{crossing_shown, horizontal_shown, vertical_shown}
use Rattle.papergrid_config.proofs.laws.shown_where_lines_are.Goals as goal

pub returns-clause-vertical : goal.returns-clause-vertical
returns-clause-vertical c = vertical_shown

pub returns-clause-horizontal : goal.returns-clause-horizontal
returns-clause-horizontal c = horizontal_shown

pub returns-clause-crossing : goal.returns-clause-crossing
returns-clause-crossing c = crossing_shown
