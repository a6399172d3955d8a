use Rattle.papergrid_layout.proofs.PairLemmas.{none_overflows}
use Rattle.papergrid_layout.proofs.laws.none_overflows.Goals as goal

pub returns : goal.returns
returns g c = none_overflows
