use Rattle.papergrid_draw.proofs.DrawnLemmas.{all-wide}
use Rattle.papergrid_draw.proofs.laws.columns_of_lines.Goals as goal

pub returns : goal.returns
returns c = all-wide
