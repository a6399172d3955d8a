use Rattle.std.proofs.Common.{◌≡◌, ◌≢◌, ◌∙◌, ap, arith, map-id, rules, sym}
use Rattle.std.specs.Prelude.{string_bytes}
use Rattle.std.proofs.lemmas.Bool.Decides.{nat_tests}
use Rattle.std.proofs.lemmas.Iterator.{YieldsList-from_chars}
use Rattle.std.proofs.lemmas.Iterator.Consumers.{YieldsList-end}
use Rattle.papergrid_csv.specs.Spelling.{without_escapes}
use Rattle.papergrid_csv.proofs.EscapeLemmas.{all_spelled, settled-all, settled-held, settled-last, settled-none, settled-pair, settled-plain}
use Rattle.papergrid_csv.proofs.spelling.spell_meant.Goals as goal
use Rattle.papergrid_csv.proofs.spelling.spell_meant.Goals.{then-held-2+in_ok-push_spelled-2, else-held-2}

pub loop-c-init : goal.loop-c-init
loop-c-init c = settled-none c.args.reading _ (search rules)

pub loop-c-preserved-then-held : goal.loop-c-preserved-then-held
loop-c-preserved-then-held c = settled-pair c.args.reading c.loop-c.yielded _ _ c.loop-c.held c.in-Some.c c.if-held.true c.loop-c.invariant c.in_ok-push_escaped.ensures

pub loop-c-preserved-then-c-eq92 : goal.loop-c-preserved-then-c-eq92
loop-c-preserved-then-c-eq92 c =
    let same : c.in-Some.c ≡ 0x5C = omega arith in
    settled-held c.args.reading c.loop-c.yielded _ c.loop-c.held c.in-Some.c c.if-held.false same c.loop-c.invariant

pub loop-c-preserved : goal.loop-c-preserved
loop-c-preserved c =
    let other : c.in-Some.c ≢ 0x5C = grind (arith, nat_tests) in
    settled-plain c.args.reading c.loop-c.yielded _ _ c.loop-c.held c.in-Some.c c.if-held.false other c.loop-c.invariant c.in_ok-push_spelled.ensures

pub returns : goal.returns
returns c =
    let end = YieldsList-end (YieldsList-from_chars c.args.field.now c.utf8.field cc) c.loop-c.yielded _ c.loop-c.yielded_by _ _ c.in-None.is c.next.ensures.steps in
    let all : string_bytes c.if-held-2.text ≡ all_spelled c.args.reading (without_escapes c.loop-c.yielded) =
    elim c.if-held-2.branch [
      | then-held-2+in_ok-push_spelled-2 w ↦
          ap string_bytes w.text-is ∙ settled-last c.args.reading c.loop-c.yielded _ _ c.loop-c.held w.if-held-2.true c.loop-c.invariant w.in_ok-push_spelled-2.ensures
      | else-held-2 w ↦ ap string_bytes w.text-is ∙ settled-all c.args.reading c.loop-c.yielded _ c.loop-c.held w.if-held-2.false c.loop-c.invariant
    ] in
    c.into_bump_str.ensures ∙ all ∙ ap (λ cs. all_spelled c.args.reading (without_escapes cs)) (sym (map-id c.loop-c.yielded) ∙ end.0)
