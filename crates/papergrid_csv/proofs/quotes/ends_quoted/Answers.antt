use Rattle.std.proofs.Common.{◌∙◌, ◌+◌, ◌-◌, ap, arith, length, refl, take}
use Rattle.std.specs.Prelude.{◌==◌}
use Rattle.std.specs.List.{list_any}
use Rattle.papergrid_csv.proofs.QuoteLemmas.{left-short, none-at_all, none-before, quote-next}
use Rattle.papergrid_csv.proofs.quotes.ends_quoted.Goals as goal

pub context_past-before-requires : goal.context_past-before-requires
context_past-before-requires c = ap (λ k. list_any (λ b. b == 34) (take k c.loop-at.rest.now)) c.loop-at.invariant.1 ∙ none-before c.loop-at.rest.now

pub overflow_add-rest : goal.overflow_add-rest
overflow_add-rest c = let short = c.loop-at.invariant.2 in omega arith

pub loop-at-preserved : goal.loop-at-preserved
loop-at-preserved c = (
  c.loop-at.invariant.0
      ∙ quote-next c.args.delimiter c.loop-at.rest.now c.loop-at.context c.context_past-before.result c.context_after-context.result _ c.loop-at.at c.loop-at.invariant.1 c.loop-at-test.true refl
      c.context_past-before.ensures c.context_after-context.ensures,
  c.find_byte-at-in-loop-at.ensures,
  left-short c.loop-at.rest.now (length c.loop-at.rest.now - (c.loop-at.at + 1)) (c.loop-at.at + 1) c.loop-at.invariant.2,
)

pub context_past-requires : goal.context_past-requires
context_past-requires c = none-at_all c.loop-at.rest.now c.loop-at.at c.loop-at.invariant.1 (omega arith)
