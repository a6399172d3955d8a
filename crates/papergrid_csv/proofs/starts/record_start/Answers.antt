use Rattle.std.proofs.Common.{◌∙◌, ◌≡◌, ◌-◌, ap, arith, length, refl, subst, sym}
use Rattle.papergrid_csv.specs.Starts.{after_line_ends}
use Rattle.papergrid_csv.specs.declared.quotes.Context.TheVariants.{Start}
use Rattle.papergrid_csv.proofs.QuoteLemmas.{short-unmarked}
use Rattle.papergrid_csv.proofs.StartLemmas.{IsLeft, left-first, left-next, left-none, left-some, none-left, shorter-behind, shorter-ends, some-left}
use Rattle.papergrid_csv.proofs.starts.record_start.Goals as goal

pub loop-init : goal.loop-init
loop-init c =
    let bound = short-unmarked c.args.input.now c.without_bom.result.now c.without_bom.ensures in
    let less = shorter-ends c.without_bom.result.now in
    let same = ap length c.past_line_ends-rest.ensures in
    (omega (arith, bound, less, same), left-first c.args.reading c.args.input.now c.past_line_ends-rest.result.now (c.past_line_ends-rest.ensures ∙ ap after_line_ends c.without_bom.ensures))

pub loop-preserved : goal.loop-preserved
loop-preserved c =
    let bound = c.loop.invariant.0 in
    let less = shorter-ends c.past_record.result.now in
    let behind = shorter-behind c.args.reading.format Start c.loop.rest.now in
    let same = ap length c.past_line_ends-rest-in-loop.ensures in
    let past = ap length c.past_record.ensures in (
      omega (arith, bound, less, behind, same, past),
      left-next c.args.reading c.args.input.now c.loop.counter c.loop.rest.now c.past_record.result.now c.past_line_ends-rest-in-loop.result.now c.loop.invariant.1 c.past_record.ensures c.past_line_ends-rest-in-loop.ensures,
    )

pub returns-then-is_empty : goal.returns-then-is_empty
returns-then-is_empty c =
    let past = c.loop-test.false in
    let last = c.loop.auto.counter-end in
    let all : c.loop.counter ≡ c.args.count = omega (arith, past, last) in
    left-none c.args.reading c.args.input.now c.args.count c.loop.rest.now
    (subst (λ count. IsLeft c.args.reading c.args.input.now count c.loop.rest.now) all c.loop.invariant.1) (none-left c.loop.rest.now (sym c.is_empty.ensures ∙ c.if-is_empty.true))

pub overflow_sub-result : goal.overflow_sub-result
overflow_sub-result c = c.loop.invariant.0

pub returns : goal.returns
returns c =
    let past = c.loop-test.false in
    let last = c.loop.auto.counter-end in
    let all : c.loop.counter ≡ c.args.count = omega (arith, past, last) in
    left-some c.args.reading c.args.input.now c.args.count (length c.args.input.now - length c.loop.rest.now) c.loop.rest.now
    (subst (λ count. IsLeft c.args.reading c.args.input.now count c.loop.rest.now) all c.loop.invariant.1)
    (some-left c.loop.rest.now (sym c.is_empty.ensures ∙ c.if-is_empty.false)) c.loop.invariant.0 refl
