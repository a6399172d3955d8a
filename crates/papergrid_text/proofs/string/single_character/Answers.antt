use Rattle.std.proofs.Common.{sym, ◌∙◌}
use Rattle.papergrid_text.proofs.CharacterLemmas.{more_characters, one_character}
use Rattle.papergrid_text.proofs.string.single_character.Goals as goal

pub returns-in-None : goal.returns-in-None
returns-in-None c = one_character c.args.text.now _ _ c.utf8.text (sym c.chars-characters.ensures.rest ∙ c.in_ok-first.ensures.steps.0) c.in-None.ensures.steps.0.0

pub returns-in-Some : goal.returns-in-Some
returns-in-Some c = more_characters c.args.text.now _ _ _ _ c.utf8.text (sym c.chars-characters.ensures.rest ∙ c.in_ok-first.ensures.steps.0) c.in-Some.ensures.steps.0
