-- Each clause is a lemma on the rows of a table.
use Rattle.papergrid_values.proofs.GridLemmas.{positions-once, positions-nothing_else, positions-rising}
use Rattle.papergrid_values.proofs.laws.global_positions.Goals as goal

pub returns-clause-once : goal.returns-clause-once
returns-clause-once c = positions-once

pub returns-clause-nothing_else : goal.returns-clause-nothing_else
returns-clause-nothing_else c = positions-nothing_else

pub returns-clause-rising : goal.returns-clause-rising
returns-clause-rising c = positions-rising
