use Rattle.papergrid_draw.proofs.InPlaceLemmas.{text-drawn, text-within}
use Rattle.papergrid_draw.proofs.laws.texts_in_place.Goals as goal

pub returns-clause-drawn : goal.returns-clause-drawn
returns-clause-drawn c = text-drawn

pub returns-clause-within : goal.returns-clause-within
returns-clause-within c = text-within
