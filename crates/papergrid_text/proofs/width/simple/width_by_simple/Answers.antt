use Rattle.papergrid_text.proofs.SimpleLemmas.{width_of_quiet}
use Rattle.papergrid_text.proofs.width.simple.width_by_simple.Goals as goal

pub returns-in-Some-clause-value : goal.returns-in-Some-clause-value
returns-in-Some-clause-value c = width_of_quiet c.args.text.now _ c.in-Some.ensures.value
