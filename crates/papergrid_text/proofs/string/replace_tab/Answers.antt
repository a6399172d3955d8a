use Rattle.std.proofs.Common.{◌∙◌, sym, ap}
use Rattle.std.specs.Str.{encode_utf8_all}
use Rattle.std.specs.Str.Iter.{chars_rest}
use Rattle.std.proofs.lemmas.Iterator.{items_from_drains, YieldsList-from_chars}
use Rattle.papergrid_text.proofs.Tabs.{replaced, step-tab, last_of-more, same_without_tabs, map_same}
use Rattle.papergrid_text.proofs.string.replace_tab.Goals as goal

pub returns-then-count_tabs-eq0-clause-value : goal.returns-then-count_tabs-eq0-clause-value
returns-then-count_tabs-eq0-clause-value c = same_without_tabs c.args.n c.args.text.now c.utf8.text (sym c.count_tabs.ensures ∙ c.if-count_tabs-eq0.true)

pub chars-preserved : goal.chars-preserved
chars-preserved c = (tt, tt, step-tab c.args.n c.chars.yielded c.in-Some.c c.chars.left _ _ c.chars.invariant.2 c.chars.invariant.3 c.in_ok-push_replaced.ensures, sym (last_of-more 0 c.chars.yielded c.in-Some.c))

pub returns-clause-value : goal.returns-clause-value
returns-clause-value c =
    let all = items_from_drains c.chars.yielded (c.chars.c-iterator, c.chars.yielded_by, λ _. (c.next.new.self, c.in-None.ensures.steps)) (YieldsList-from_chars c.args.text.now c.utf8.text (ap chars_rest c.into_iter-c-iterator.ensures.into_iter_gives ∙ c.chars-c-items.ensures.rest)) in
    c.chars.invariant.2 ∙ ap (λ cs. encode_utf8_all (replaced c.args.n 0 cs)) (sym (map_same c.chars.yielded) ∙ all)
