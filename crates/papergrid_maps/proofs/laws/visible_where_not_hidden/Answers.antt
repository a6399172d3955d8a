use Rattle.papergrid_maps.proofs.HiddenLemmas.{test-by-hidden}
use Rattle.papergrid_maps.proofs.laws.visible_where_not_hidden.Goals as goal

pub returns-clause-test : goal.returns-clause-test
returns-clause-test c = test-by-hidden
