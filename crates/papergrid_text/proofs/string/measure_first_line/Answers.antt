use Rattle.std.proofs.Common.{◌≡◌, ℕ, List, ◌<◌, ◌+◌, length, take, drop, get_or, arith, ap, sym, ◌∙◌}
use Rattle.std.proofs.lemmas.List.Sums.{prefix_len-le-length}
use Rattle.std.proofs.lemmas.Str.{IsCharBoundary-after_ascii}
use Rattle.std.specs.Int.{is_in_range}
use Rattle.std.specs.List.{prefix_len}
use Rattle.papergrid_text.proofs.Printable.{first_newline, one_line}
use Rattle.papergrid_text.proofs.PrintableLemmas.{front_width, whole_printable, width-printable}
use Rattle.papergrid_text.proofs.Splits.{split_first}
use Rattle.papergrid_text.proofs.string.measure_first_line.Goals as goal

pub returns-then-printable-text-clause-first : goal.returns-then-printable-text-clause-first
returns-then-printable-text-clause-first c =
    let printable = whole_printable c.args.text.now _ c.requires c.if-printable-text.true in
    (c.args.text.now, one_line c.args.text.now printable, c.if-printable-text.true ∙ sym (width-printable c.args.text.now printable))

falls_short : (text : List ℕ) (n : ℕ) → n ≡ prefix_len (is_in_range 0x20 0x7E) text → ¬ (n ≡ length text) → n < length text
falls_short text n is other = let bound = prefix_len-le-length (is_in_range 0x20 0x7E) text in omega arith

pub bounds-as_bytes-printable : goal.bounds-as_bytes-printable
bounds-as_bytes-printable c = grind (arith, falls_short)

pub range_from-requires : goal.range_from-requires
range_from-requires c = λ some.
    let within = falls_short c.args.text.now _ c.requires c.if-printable-text.false in
    let newline : get_or c.args.text.now c.args.printable 0 ≡ 10 = ap (λ bytes. get_or bytes c.args.printable 0) (sym c.as_bytes.ensures.value) ∙ c.if-as_bytes-printable-eq10.true in
    IsCharBoundary-after_ascii c.args.text.now c.args.printable c.utf8.text (omega arith) (omega arith)

pub returns-then-as_bytes-printable-eq10-clause-first : goal.returns-then-as_bytes-printable-eq10-clause-first
returns-then-as_bytes-printable-eq10-clause-first c =
    let text = c.args.text.now in
    let n = c.args.printable in
    let is = c.requires in
    let newline : get_or text n 0 ≡ 10 = ap (λ bytes. get_or bytes n 0) (sym c.as_bytes.ensures.value) ∙ c.if-as_bytes-printable-eq10.true in
    let place = is ∙ sym (first_newline text (omega arith) (ap (λ k. get_or text k 0) (sym is) ∙ newline)) in
    (take n text, split_first text (take n text) c.range_from.result.now (omega arith) (ap (λ k. take k text) place) (c.range_from.ensures.value ∙ ap (λ k. drop (k + 1) text) place), front_width text n is)
