use Rattle.std.proofs.Common.{arith}
use Rattle.papergrid_text.proofs.Compared.{ended}
use Rattle.papergrid_text.proofs.text.Text.compare_lines.Goals as goal

pub returns : goal.returns
returns g c = grind (arith, ended)
