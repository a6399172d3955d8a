use Rattle.papergrid_draw.proofs.SameLemmas.{same-settings-picture}
use Rattle.papergrid_draw.proofs.laws.same_pictures.Goals as goal

pub returns : goal.returns
returns c = same-settings-picture
