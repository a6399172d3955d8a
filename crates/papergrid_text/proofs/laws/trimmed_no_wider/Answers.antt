use Rattle.papergrid_text.proofs.TrimLemmas.{trimmed-no_wider}
use Rattle.papergrid_text.proofs.laws.trimmed_no_wider.Goals as goal

pub returns : goal.returns
returns c = trimmed-no_wider
