use Rattle.std.proofs.Common.{rules}
use Rattle.papergrid_maps.proofs.StoredMapLemmas.{stored-IsEffective}
use Rattle.papergrid_config.proofs.laws.history_decides.Goals as goal

pub returns : goal.returns
returns c settings config told = search (rules, stored-IsEffective)
