use Rattle.std.proofs.Common.{◌∙◌}
use Rattle.papergrid_text.proofs.Walks.{lent_short, lent_drains}
use Rattle.papergrid_text.proofs.laws.vector_tells_cells.Goals as goal

pub returns-clause-finite : goal.returns-clause-finite
returns-clause-finite g c = λ row it made. lent_short _ (λ cell. tt) it made.1

pub returns-clause-told : goal.returns-clause-told
returns-clause-told g c = λ row cells gave. lent_drains gave.iterator cells gave.walked ∙ gave.made.0
