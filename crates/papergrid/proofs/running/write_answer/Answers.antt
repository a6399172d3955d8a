use Rattle.std.proofs.Common.{arith}
use Rattle.papergrid_script.proofs.RunLemmas.{runs-also}
use Rattle.papergrid.proofs.running.write_answer.Goals as goal

pub returns-clause-written : goal.returns-clause-written
returns-clause-written g c = grind (arith, runs-also)
