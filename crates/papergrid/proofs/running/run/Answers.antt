use Rattle.std.proofs.Common.{rules}
use Rattle.papergrid.proofs.RunLemmas.{runs-unseen}
use Rattle.papergrid.proofs.running.run.Goals as goal

pub returns-clause-run : goal.returns-clause-run
returns-clause-run g c = search (rules, runs-unseen)
