use Rattle.std.proofs.Common.{sym, ◌∙◌}
use Rattle.papergrid_text.proofs.SimpleLemmas.{begins_with_lam, starts_semitic}
use Rattle.papergrid_text.proofs.width.simple.first_semitic.Goals as goal

pub first_lam-requires : goal.first_lam-requires
first_lam-requires c = begins_with_lam _ _ c.utf8.text c.requires c.first_of_two-first.ensures c.if-first-eq1604.true

pub returns-then-is_semitic_letter : goal.returns-then-is_semitic_letter
returns-then-is_semitic_letter c = starts_semitic _ _ c.utf8.text c.requires c.first_of_two-first.ensures c.if-first-eq1604.false (sym c.is_semitic_letter.ensures ∙ c.if-is_semitic_letter.true)
