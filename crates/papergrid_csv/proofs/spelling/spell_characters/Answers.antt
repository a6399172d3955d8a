use Rattle.std.proofs.Common.{◌∙◌, ap, flat_map, map-id, sym}
use Rattle.std.specs.Prelude.{encode_utf8_all}
use Rattle.std.proofs.lemmas.Iterator.{YieldsList-from_chars}
use Rattle.std.proofs.lemmas.Iterator.Consumers.{YieldsList-end}
use Rattle.papergrid_csv.specs.Spelling.{spelled_character}
use Rattle.papergrid_csv.proofs.SpellingLemmas.{spelled-more}
use Rattle.papergrid_csv.proofs.spelling.spell_characters.Goals as goal

pub loop-c-preserved : goal.loop-c-preserved
loop-c-preserved c = spelled-more c.args.reading _ _ c.loop-c.yielded c.in-Some.c c.loop-c.invariant c.in_ok-push_spelled.ensures

pub returns : goal.returns
returns c =
    let end = YieldsList-end (YieldsList-from_chars c.args.field.now c.utf8.field cc) c.loop-c.yielded _ c.loop-c.yielded_by _ _ c.in-None.is c.next.ensures.steps in
    c.into_bump_str.ensures ∙ c.loop-c.invariant ∙ ap (λ cs. encode_utf8_all (flat_map (spelled_character c.args.reading) cs)) (sym (map-id c.loop-c.yielded) ∙ end.0)
