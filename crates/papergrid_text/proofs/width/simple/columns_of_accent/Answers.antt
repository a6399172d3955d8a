use Rattle.papergrid_text.proofs.SimpleLemmas.{starts_accent, starts_greek}
use Rattle.papergrid_text.proofs.width.simple.columns_of_accent.Goals as goal

pub returns-then-first_of_two-lt880 : goal.returns-then-first_of_two-lt880
returns-then-first_of_two-lt880 c = starts_accent _ _ c.utf8.text c.requires c.first_of_two.ensures c.if-first_of_two-lt880.true

pub returns-else-first_of_two-lt880 : goal.returns-else-first_of_two-lt880
returns-else-first_of_two-lt880 c = starts_greek _ _ c.utf8.text c.requires c.first_of_two.ensures c.if-first_of_two-lt880.false
