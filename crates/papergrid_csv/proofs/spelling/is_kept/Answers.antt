use Rattle.std.proofs.Common.{◌∙◌, ◌≡◌, ap, arith, flat_map, map-id, sym, true}
use Rattle.std.proofs.lemmas.Iterator.{YieldsList-from_chars}
use Rattle.std.proofs.lemmas.Iterator.Consumers.{YieldsList-end}
use Rattle.std.proofs.lemmas.Str.{encodes-chars}
use Rattle.papergrid_csv.specs.Spelling.{spelled_character}
use Rattle.papergrid_csv.proofs.SpellingLemmas.{printable-same, same-all, same-more}
use Rattle.papergrid_csv.proofs.spelling.is_kept.Goals as goal

pub loop-c-preserved : goal.loop-c-preserved
loop-c-preserved c =
    let kept : c.keeps.result ≡ true = grind arith in
    same-more c.args.reading c.loop-c.yielded c.in-Some.c c.loop-c.invariant (c.keeps.ensures kept)

pub returns : goal.returns
returns c is =
    let end = YieldsList-end (YieldsList-from_chars c.args.field.now c.utf8.field cc) c.loop-c.yielded _ c.loop-c.yielded_by _ _ c.in-None.is c.next.ensures.steps in
    let all = sym (map-id c.loop-c.yielded) ∙ end.0 in
    same-all c.args.reading _ _ (ap (λ cs. flat_map (spelled_character c.args.reading) cs) (sym all) ∙ c.loop-c.invariant ∙ all) (encodes-chars c.args.field.now c.utf8.field)

pub returns-then-is_printable : goal.returns-then-is_printable
returns-then-is_printable c is = printable-same c.args.reading c.args.field.now (sym c.is_printable.ensures ∙ c.if-is_printable.true)
