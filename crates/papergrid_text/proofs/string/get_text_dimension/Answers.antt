use Rattle.std.proofs.Common.{arith}
use Rattle.papergrid_text.proofs.PrintableLemmas.{whole_printable}
use Rattle.papergrid_text.proofs.Printable.{one_line, one_width}
use Rattle.papergrid_text.proofs.string.get_text_dimension.Goals as goal

pub returns-then-printable-text : goal.returns-then-printable-text
returns-then-printable-text c = grind (arith, whole_printable, one_line, one_width)
