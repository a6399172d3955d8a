use Rattle.papergrid_text.proofs.Widths.{same_dimension}
use Rattle.papergrid_text.proofs.laws.dimension_without_carriage_returns.Goals as goal

pub returns : goal.returns
returns c = same_dimension
