use Rattle.papergrid_draw.proofs.HonestLemmas.{texts-honest}
use Rattle.papergrid_draw.proofs.laws.honest_texts.Goals as goal

pub returns : goal.returns
returns g c = texts-honest
