use Rattle.papergrid_draw.proofs.MarginLemmas.{margin-above, margin-below, margin-beside, margin-columns, margins-none}
use Rattle.papergrid_draw.proofs.laws.margins_in_place.Goals as goal

pub returns-clause-above : goal.returns-clause-above
returns-clause-above c = margin-above

pub returns-clause-beside : goal.returns-clause-beside
returns-clause-beside c = margin-beside

pub returns-clause-below : goal.returns-clause-below
returns-clause-below c = margin-below

pub returns-clause-columns : goal.returns-clause-columns
returns-clause-columns c = margin-columns

pub returns-clause-none : goal.returns-clause-none
returns-clause-none c = margins-none
