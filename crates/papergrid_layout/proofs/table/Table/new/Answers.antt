use Rattle.std.proofs.Common.{arith}
use Rattle.papergrid_layout.proofs.MadeLemmas.{made}
use Rattle.papergrid_layout.proofs.table.Table.new.Goals as goal

pub returns : goal.returns
returns g c = grind (arith, made)
