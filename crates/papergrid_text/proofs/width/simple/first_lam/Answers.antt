use Rattle.std.proofs.Common.{arith}
use Rattle.papergrid_text.proofs.SimpleLemmas.{cut_lam, lam_and_alef, lam_at_end, lam_in_word, passed}
use Rattle.papergrid_text.proofs.width.simple.first_lam.Goals as goal

pub range_from-rest-requires : goal.range_from-rest-requires
range_from-rest-requires c = λ some. cut_lam _ c.utf8.text c.requires

pub returns-then-is_word_end : goal.returns-then-is_word_end
returns-then-is_word_end c = lam_at_end _ _ c.utf8.text c.requires c.range_from-rest.ensures.value c.range_from-rest.utf8 (c.is_word_end.ensures.ends c.if-is_word_end.true)

pub returns-then-is_alef : goal.returns-then-is_alef
returns-then-is_alef c = grind (arith, passed, lam_and_alef)

pub returns-then-is_semitic_letter : goal.returns-then-is_semitic_letter
returns-then-is_semitic_letter c = grind (arith, passed, lam_in_word)
