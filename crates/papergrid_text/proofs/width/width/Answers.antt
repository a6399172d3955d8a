use Rattle.std.proofs.Common.{arith}
use Rattle.papergrid_text.proofs.PrintableLemmas.{whole_printable, width-printable}
use Rattle.papergrid_text.proofs.width.width.Goals as goal

pub returns-then-printable-text : goal.returns-then-printable-text
returns-then-printable-text c = grind (arith, whole_printable, width-printable)
