use Rattle.papergrid_text.proofs.SimpleLemmas.{width_of_quiet}
use Rattle.papergrid_text.proofs.width.width_of_long.Goals as goal

pub returns-in-Some : goal.returns-in-Some
returns-in-Some c = width_of_quiet c.args.text.now _ c.in-Some.ensures.value
