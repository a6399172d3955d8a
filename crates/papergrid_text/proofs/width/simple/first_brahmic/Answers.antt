use Rattle.papergrid_text.proofs.SimpleLemmas.{is_of_three_low, starts_brahmic}
use Rattle.papergrid_text.proofs.width.simple.first_brahmic.Goals as goal

pub returns : goal.returns
returns c = starts_brahmic _ c.first_of_three.result _ c.utf8.text (is_of_three_low _ c.utf8.text c.requires) c.first_of_three.ensures c.columns_of_brahmic.ensures
