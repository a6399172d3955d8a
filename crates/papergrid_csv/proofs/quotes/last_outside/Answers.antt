use Rattle.std.proofs.Common.{◌∙◌, arith, sym}
use Rattle.papergrid_csv.proofs.QuoteLemmas.{last-of, moves, outside-first, context-next, context-start, stays}
use Rattle.papergrid_csv.proofs.quotes.last_outside.Goals as goal
use Rattle.papergrid_csv.proofs.quotes.last_outside.Goals.{then-not-is_between, else-not-is_between}

pub loop-at-init : goal.loop-at-init
loop-at-init c = (context-start c.args.delimiter, omega arith, omega arith, outside-first c.args.delimiter c.args.text.now, λ k past within. absurd (omega arith))

pub loop-at-preserved : goal.loop-at-preserved
loop-at-preserved c =
    let (is, behind, within, outside, inside) = c.loop-at.invariant in
    let next = c.context_after-context.ensures ∙ context-next c.args.delimiter c.args.text.now c.loop-at.at c.loop-at.context is c.loop-at-test.true in
    let first = moves c.args.delimiter c.args.text.now c.loop-at.context c.loop-at.at c.loop-at.last c.if-not-is_between.last is in
    let rest = stays c.args.delimiter c.args.text.now c.loop-at.context c.loop-at.at c.loop-at.last c.if-not-is_between.last is in
    elim c.if-not-is_between.branch [
      | then-not-is_between w ↦ let so = first (sym c.is_between.ensures ∙ w.if-not-is_between.true) w.last-is in (next, omega arith, omega arith, so.0, so.1)
      | else-not-is_between w ↦ let so = rest (sym c.is_between.ensures ∙ w.if-not-is_between.false) w.last-is outside inside in (next, omega arith, omega arith, so.0, so.1)
    ]

pub returns-clause-last : goal.returns-clause-last
returns-clause-last c =
    let (is, behind, within, outside, inside) = c.loop-at.invariant in
    last-of c.args.delimiter c.args.text.now c.loop-at.at c.loop-at.last c.requires c.loop-at-test.false outside inside
