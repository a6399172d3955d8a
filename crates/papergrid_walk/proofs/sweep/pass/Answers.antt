use Rattle.std.proofs.Common.{arith}
use Rattle.papergrid_walk.proofs.PassLemmas.{fits-less, least-most}
use Rattle.papergrid_walk.proofs.sweep.pass.Goals as goal

pub raise-requires : goal.raise-requires
raise-requires c = grind (arith, fits-less, least-most)
