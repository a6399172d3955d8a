use Rattle.papergrid_tables.proofs.HistoryEqual.{border_histories_equal, override_histories_equal}
use Rattle.papergrid_tables.proofs.laws.equal_tables_by_history.Goals as goal

pub returns-clause-borders : goal.returns-clause-borders
returns-clause-borders g c = border_histories_equal g.T.PartialEq.eq g.met.T.Eq.laws.refl

pub returns-clause-overrides : goal.returns-clause-overrides
returns-clause-overrides g c = override_histories_equal g.T.PartialEq.eq g.met.T.Eq.laws.refl
