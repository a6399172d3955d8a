use Rattle.papergrid_csv.proofs.OneRunLemmas.{one-run}
use Rattle.papergrid_csv.proofs.laws.one_run.Goals as goal

pub returns : goal.returns
returns c request input =
    one-run request input (λ settings x y one another. (c.equal_configurations.ensures x y).0 (c.equal_by_history.ensures.told settings x y one another))
