use Rattle.std.proofs.Common.{length-append, arith}
use Rattle.papergrid_text.proofs.RunLemmas.{width_parted}
use Rattle.papergrid_text.proofs.width.runs.width_by_runs.Goals as goal

pub loop-before-preserved : goal.loop-before-preserved
loop-before-preserved c = grind (arith, length-append, width_parted)
