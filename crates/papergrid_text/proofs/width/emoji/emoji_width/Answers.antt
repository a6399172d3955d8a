use Rattle.std.proofs.Common.{◌≡◌, false, true, ◌+◌, ◌-◌, length, sym, ap, ◌∙◌, arith, rules, subst}
use Rattle.std.proofs.lemmas.List.{nil_from_length}
use Rattle.std.proofs.lemmas.Str.{chars_from_encodes}
use Rattle.unicode_width.specs.Width.{is_plain, str_width}
use Rattle.unicode_width.proofs.WidthLemmas.{HasRead, HasRead-printable, HasRead-step}
use Rattle.papergrid_text.specs.ForProofs.Emoji.{state_of}
use Rattle.papergrid_text.specs.declared.width.part.After.TheVariants.{Other}
use Rattle.papergrid_text.proofs.width.emoji.emoji_width.Goals as goal

pub loop-c-preserved : goal.loop-c-preserved
loop-c-preserved c =
    HasRead-step false c.args.text.now _ _ c.in-Some.c _ _ (state_of c.loop-c.after) _ c.loop-c.invariant c.in-Some.ensures.steps
    (sym (c.in_ok-own.ensures.step c.loop-c.width)) (omega (arith, c.in_ok-own.ensures.bound)) (λ _. omega (arith, c.in_ok-own.ensures.bound))

pub loop-c-preserved-then-eq : goal.loop-c-preserved-then-eq
loop-c-preserved-then-eq c =
    let text = c.args.text.now in
    let left = c.as_str-left.result.now in
    let front = c.without_printable_end-front in
    let n = length front.result.now in
    let total = c.loop-c.width + c.in_ok-own.own in
    let state = state_of c.in_ok-own.begins in
    let other : c.in_ok-own.begins ≡ Other = search rules in
    let is : is_plain state ≡ true = ap (λ a. is_plain (state_of a)) other in
    let read : HasRead false text left total state =
    rw c.as_str-left.ensures (HasRead-step false text _ _ c.in-Some.c _ _ (state_of c.loop-c.after) state c.loop-c.invariant c.in-Some.ensures.steps
    (sym (c.in_ok-own.ensures.step c.loop-c.width)) (omega (arith, c.in_ok-own.ensures.bound)) (λ _. omega (arith, c.in_ok-own.ensures.bound))) in
    subst (λ l. HasRead false text l (total + (length left - n)) state) (sym (c.chars-rest-then-eq.ensures.rest ∙ front.ensures.front))
    (HasRead-printable false text left n total state read is front.ensures.len front.ensures.printable)

pub returns : goal.returns
unfolding str_width
returns c = grind (arith, nil_from_length, chars_from_encodes)
