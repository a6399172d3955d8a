use Rattle.papergrid_draw.proofs.HiddenLemmas.{same-picture}
use Rattle.papergrid_draw.proofs.laws.hidden_cells_unseen.Goals as goal

pub returns : goal.returns
returns c = same-picture
