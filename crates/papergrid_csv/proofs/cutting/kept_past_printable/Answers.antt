use Rattle.std.proofs.Common.{◌∙◌, ◌+◌, ◌≤◌, ap, arith, length, refl, subst, sym}
use Rattle.std.specs.Prelude.{IsUtf8}
use Rattle.std.proofs.lemmas.List.{nil_from_length}
use Rattle.std.specs.Str.Iter.{chars_rest}
use Rattle.papergrid_text.proofs.SimpleLemmas.{cut_past}
use Rattle.papergrid_csv.proofs.ApartLemmas.{apart}
use Rattle.papergrid_csv.proofs.CutLemmas.{goes-apart, goes-on, is-front, never-ends, next-boundary, next-within, so-far-front, stops}
use Rattle.papergrid_csv.proofs.cutting.kept_past_printable.Goals as goal

pub range_from-requires : goal.range_from-requires
range_from-requires c =
    let front = is-front c.args.line.now c.args.printable c.requires.printable in
    λ some. cut_past c.args.line.now c.args.printable c.utf8.line front.within front.all

pub loop-c-init : goal.loop-c-init
loop-c-init c =
    let front = is-front c.args.line.now c.args.printable c.requires.printable in
    let rest = ap chars_rest c.into_iter-c-iterator.ensures.into_iter_gives ∙ c.chars-c-items.ensures.rest in
    so-far-front c.args.columns c.args.line.now (chars_rest c.into_iter-c-iterator.result) c.args.printable c.utf8.line (subst IsUtf8 (sym rest) c.range_from.utf8) front c.requires.narrow
    (rest ∙ c.range_from.ensures.value)

pub overflow_add-next : goal.overflow_add-next
overflow_add-next c =
    let within : c.loop-c.taken + c.len_utf8-size.result ≤ length c.args.line.now =
    (next-within c.args.columns c.args.line.now c.loop-c.segment.now (chars_rest c.loop-c.c-iterator) c.loop-c.taken c.loop-c.before c.loop-c.end c.loop-c.invariant c.in-Some.c _ c.in-Some.ensures.steps.0
    (c.loop-c.taken + c.len_utf8-size.result) c.len_utf8-size.result refl c.len_utf8-size.ensures.len).0 in omega arith

pub overflow_add-end : goal.overflow_add-end
overflow_add-end c =
    let within : c.loop-c.end + c.len_utf8-size.result ≤ length c.args.line.now =
    (next-within c.args.columns c.args.line.now c.loop-c.segment.now (chars_rest c.loop-c.c-iterator) c.loop-c.taken c.loop-c.before c.loop-c.end c.loop-c.invariant c.in-Some.c _ c.in-Some.ensures.steps.0
    (c.loop-c.taken + c.len_utf8-size.result) c.len_utf8-size.result refl c.len_utf8-size.ensures.len).1 in omega arith

pub range-requires-clause-end_boundary : goal.range-requires-clause-end_boundary
range-requires-clause-end_boundary c =
    next-boundary c.args.columns c.args.line.now c.loop-c.segment.now (chars_rest c.loop-c.c-iterator) c.loop-c.taken c.loop-c.before c.loop-c.end c.loop-c.invariant c.in-Some.c _ c.in-Some.ensures.steps.0
    (c.loop-c.taken + c.len_utf8-size.result) c.len_utf8-size.result refl c.len_utf8-size.ensures.len

pub returns-then-columns-width : goal.returns-then-columns-width
returns-then-columns-width c =
    stops c.args.columns c.args.line.now c.loop-c.segment.now (chars_rest c.loop-c.c-iterator) c.loop-c.taken c.loop-c.before c.loop-c.end c.loop-c.invariant c.in-Some.c _ c.in-Some.ensures.steps.0
    (c.loop-c.taken + c.len_utf8-size.result) c.len_utf8-size.result refl c.len_utf8-size.ensures.len
    c.range.result.now c.width.result c.saturating_add-width.result _ c.range.ensures.value c.width.ensures c.saturating_add-width.ensures c.if-columns-width.true

pub range_from-segment-requires : goal.range_from-segment-requires
range_from-segment-requires c =
    λ some. next-boundary c.args.columns c.args.line.now c.loop-c.segment.now (chars_rest c.loop-c.c-iterator) c.loop-c.taken c.loop-c.before c.loop-c.end c.loop-c.invariant c.in-Some.c _ c.in-Some.ensures.steps.0
    (c.loop-c.taken + c.len_utf8-size.result) c.len_utf8-size.result refl c.len_utf8-size.ensures.len

pub loop-c-preserved-then-stands_apart : goal.loop-c-preserved-then-stands_apart
loop-c-preserved-then-stands_apart c =
    goes-apart c.args.columns c.args.line.now c.loop-c.segment.now (chars_rest c.loop-c.c-iterator) c.loop-c.taken c.loop-c.before c.loop-c.end c.loop-c.invariant c.in-Some.c _ c.in-Some.ensures.steps.0
    (c.loop-c.taken + c.len_utf8-size.result) c.len_utf8-size.result refl c.len_utf8-size.ensures.len
    c.range.result.now c.range_from-segment.result.now c.width.result c.saturating_add-width.result _ c.range.ensures.value c.width.ensures c.saturating_add-width.ensures c.if-columns-width.false (omega arith)
    c.range_from-segment.ensures.value (apart c.in-Some.c (sym c.stands_apart.ensures ∙ c.if-stands_apart.true))

pub loop-c-preserved : goal.loop-c-preserved
loop-c-preserved c =
    goes-on c.args.columns c.args.line.now c.loop-c.segment.now (chars_rest c.loop-c.c-iterator) c.loop-c.taken c.loop-c.before c.loop-c.end c.loop-c.invariant c.in-Some.c _ c.in-Some.ensures.steps.0
    (c.loop-c.taken + c.len_utf8-size.result) c.len_utf8-size.result refl c.len_utf8-size.ensures.len
    c.range.result.now c.width.result c.saturating_add-width.result _ c.range.ensures.value c.width.ensures c.saturating_add-width.ensures c.if-columns-width.false (omega arith)

pub returns : goal.returns
returns c =
    absurd (never-ends c.args.columns c.args.line.now c.loop-c.segment.now (chars_rest c.loop-c.c-iterator) c.loop-c.taken c.loop-c.before c.loop-c.end c.loop-c.invariant
    (nil_from_length (chars_rest c.loop-c.c-iterator) c.in-None.ensures.steps.0.0) c.requires.wide)
