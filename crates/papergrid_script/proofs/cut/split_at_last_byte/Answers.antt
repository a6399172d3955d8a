use Rattle.std.proofs.Common.{Some, ap, sym, ◌∙◌, arith, get_or, take, ◌-◌}
use Rattle.papergrid_script.proofs.LastByteLemmas.{last_missing, last_there}
use Rattle.papergrid_script.proofs.cut.split_at_last_byte.Goals as goal

pub returns-then-bytes-at-clause-parts : goal.returns-then-bytes-at-clause-parts
returns-then-bytes-at-clause-parts c =
    let passed = c.loop-at.invariant in
    let some = c.loop-at-test.true in
    let within = passed.within in
    let there = ap (λ bytes. get_or bytes (c.loop-at.at - 1) 0) (sym c.as_bytes-bytes.ensures.value) ∙ c.if-bytes-at.true in
    ap (λ b. Some (b, c.split_around.result.1.now)) c.split_around.ensures.before ∙ ap (λ b. Some (take (c.loop-at.at - 1) c.args.text.now, b)) c.split_around.ensures.after
    ∙ last_there c.args.text.now c.args.byte (c.loop-at.at - 1) (omega (arith, some, within)) there (λ k from to. passed.none k (omega (arith, some, from)) to)

pub returns-clause-parts : goal.returns-clause-parts
returns-clause-parts c = grind (arith, last_missing)
