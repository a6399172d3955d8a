use Rattle.papergrid_draw.proofs.SourceLemmas.{all-of_cell, all-of_table}
use Rattle.papergrid_draw.proofs.laws.nothing_else_is_drawn.Goals as goal

pub returns-clause-pieces : goal.returns-clause-pieces
returns-clause-pieces c = all-of_table

pub returns-clause-cells : goal.returns-clause-cells
returns-clause-cells c = all-of_cell
