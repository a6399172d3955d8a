use Rattle.papergrid_draw.proofs.CountLemmas.{drawn-count, picture-cut-lines, picture-joined, picture-none, whole-count}
use Rattle.papergrid_draw.proofs.laws.lines_of_pictures.Goals as goal

pub returns-clause-count : goal.returns-clause-count
returns-clause-count c = drawn-count

pub returns-clause-whole_count : goal.returns-clause-whole_count
returns-clause-whole_count c = whole-count

pub returns-clause-none : goal.returns-clause-none
returns-clause-none c = picture-none

pub returns-clause-joined : goal.returns-clause-joined
returns-clause-joined c = picture-joined

pub returns-clause-cut : goal.returns-clause-cut
returns-clause-cut c = picture-cut-lines
