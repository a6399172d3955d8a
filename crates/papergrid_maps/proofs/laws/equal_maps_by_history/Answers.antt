use Rattle.papergrid_maps.proofs.HistoryEqual.{map_histories_equal, span_histories_equal}
use Rattle.papergrid_maps.proofs.laws.equal_maps_by_history.Goals as goal

pub returns-clause-maps : goal.returns-clause-maps
returns-clause-maps g c = map_histories_equal g.T.PartialEq.eq g.met.T.Eq.laws.refl

pub returns-clause-spans : goal.returns-clause-spans
returns-clause-spans g c = span_histories_equal
