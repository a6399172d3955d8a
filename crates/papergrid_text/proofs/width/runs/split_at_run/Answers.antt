use Rattle.std.proofs.Common.{◌≡◌, ◌≢◌, ◌+◌, ◌-◌, ◌<◌, ◌≤◌, ℕ, List, true, length, take, drop, get_or, IsUtf8, sym, subst, ap, ◌∙◌, arith}
use Rattle.std.specs.Int.{is_in_range}
use Rattle.std.specs.List.{position_or_len, prefix_len}
use Rattle.std.specs.Str.{IsCharBoundary}
use Rattle.std.proofs.lemmas.Bool.{cases_lt, eqb-false}
use Rattle.std.proofs.lemmas.Bool.Decides.{nat_tests}
use Rattle.std.proofs.lemmas.List.{length-drop, get_or-drop}
use Rattle.std.proofs.lemmas.List.Sums.{prefix_len-le-length, prefix_len_passes, passes_at_first}
use Rattle.std.proofs.lemmas.Str.{IsCharBoundary-after_ascii}
use Rattle.papergrid_text.proofs.RunLemmas.{split_there}
use Rattle.papergrid_text.proofs.width.runs.split_at_run.Goals as goal

ascii_byte : (b : ℕ) → is_in_range 0x20 0x7E b ≡ true → b < 128
ascii_byte b h = grind (arith, nat_tests)

-- where a run begins, and the text where there is none
begins : (text : List ℕ) (start : ℕ) → start ≡ position_or_len (is_in_range 0x20 0x7E) text → IsCharBoundary text start
begins text start is = grind (arith, cases_lt, passes_at_first, ascii_byte, prefix_len-le-length)

-- where it ends
ends : (text : List ℕ) (start n : ℕ) → IsUtf8 text → start ≤ length text → n ≡ prefix_len (is_in_range 0x20 0x7E) (drop start text) → 0 < n
    → (start + n ≤ length text) × IsCharBoundary text (start + n)
ends text start n utf8 within is some =
    let bound = prefix_len-le-length (is_in_range 0x20 0x7E) (drop start text) in
    let left = length-drop start text in
    let last : is_in_range 0x20 0x7E (get_or (drop start text) (n - 1) 0) ≡ true = prefix_len_passes (is_in_range 0x20 0x7E) (drop start text) (n - 1) 0 (omega arith) in
    let last_byte : is_in_range 0x20 0x7E (get_or text (start + (n - 1)) 0) ≡ true = ap (is_in_range 0x20 0x7E) (sym (get_or-drop start text (n - 1) 0)) ∙ last in
    let past : start + (n - 1) + 1 ≡ start + n = omega arith in
    (omega arith, subst (IsCharBoundary text) past (IsCharBoundary-after_ascii text (start + (n - 1)) utf8 (omega arith) (ascii_byte _ last_byte)))

pub range_from-requires : goal.range_from-requires
range_from-requires c = λ some. begins c.args.text.now _ (c.count_others-start.ensures ∙ ap (position_or_len (is_in_range 0x20 0x7E)) c.as_bytes.ensures.value)

past_run : (c : goal.Else-run-eq0) → (c.count_others-start.result + c.count_printable-run.result ≤ length c.args.text.now) × IsCharBoundary c.args.text.now (c.count_others-start.result + c.count_printable-run.result)
past_run c = grind (arith, prefix_len-le-length, ends)

pub overflow_add-start : goal.overflow_add-start
overflow_add-start c = grind (arith, past_run)

pub range_from-after-requires : goal.range_from-after-requires
range_from-after-requires c = λ some. (past_run c).1

pub returns-clause-parts : goal.returns-clause-parts
returns-clause-parts c =
    let text = c.args.text.now in
    let start = c.count_others-start.result in
    let run = c.count_printable-run.result in
    let before : take start text ≡ c.range.result.now = ap (λ k. take k text) (omega arith) ∙ sym c.range.ensures.value in
    let after : drop (start + run) text ≡ c.range_from-after.result.now = sym c.range_from-after.ensures.value in
    let other : get_or (drop (start + run) text) 0 0 ≢ 0xEF = λ same. eqb-false _ _ (sym c.may_select.ensures ∙ c.if-may_select.false) (ap (λ bs. get_or bs 0 0) (sym after) ∙ same) in
    rw (before, after) at (split_there text start run (c.count_printable-run.ensures ∙ ap (prefix_len (is_in_range 0x20 0x7E)) c.range_from.ensures.value) (omega arith) other)
