use Rattle.std.proofs.Common.{arith}
use Rattle.papergrid_text.proofs.Places.{first_in_front}
use Rattle.papergrid_script.proofs.cut.cut_marked_line.Goals as goal

pub returns-clause-mark : goal.returns-clause-mark
returns-clause-mark c = grind (arith, first_in_front)
