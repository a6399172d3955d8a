use Rattle.papergrid_text.proofs.SeparatorLemmas.{separates}
use Rattle.papergrid_text.proofs.laws.separators.Goals as goal

pub returns : goal.returns
returns c = separates
