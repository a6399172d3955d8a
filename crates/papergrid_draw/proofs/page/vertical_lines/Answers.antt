use Rattle.std.proofs.Common.{◌≡◌, ◌∙◌, ◌<◌, ◌≤◌, ◌+◌, ℕ, Bool, ap, arith, get_or, length}
use Rattle.papergrid_draw.specs.Drawn.{draws_vertical}
use Rattle.papergrid_draw.specs.ForProofs.Pages.{Texts, drawing_of}
use Rattle.papergrid_draw.proofs.PageLemmas.{verticals-more}
use Rattle.papergrid_draw.proofs.page.vertical_lines.Goals as goal
use Rattle.papergrid_draw.proofs.page.vertical_lines.Goals.{else-loop-col-test, then-loop-col-test+in_ok-push+else-col-col-end}

pub loop-col-preserved : goal.loop-col-preserved
loop-col-preserved c =
    let table = c.args.table.now in
    let wide = ap (λ (s : ℕ × ℕ). s.1) c.shape-col-end.ensures in
    let within : c.loop-col.col ≤ length table.widths = let go = c.loop-col-test.true in omega (arith, go, wide) in
    verticals-more table _ _ _ c.in_ok-push.ensures.items c.is_some.ensures c.vertical_at.ensures within c.loop-col.invariant.0 c.loop-col.invariant.1

pub returns : goal.returns
returns c =
    let table = c.args.table.now in
    let wide = ap (λ (s : ℕ × ℕ). s.1) c.shape-col-end.ensures in
    let known : (length c.loop-col-test.lines.items ≡ length table.widths + 1)
    × ((texts : Texts) (i : ℕ) (other : Bool) → i < length table.widths + 1 → get_or c.loop-col-test.lines.items i other ≡ draws_vertical (drawing_of table texts) i) =
    elim c.loop-col-test.branch [
      | else-loop-col-test w ↦ let past = w.loop-col-test.false in let end = c.loop-col.auto.col-end in absurd (omega (arith, past, end))
      | then-loop-col-test+in_ok-push+else-col-col-end w ↦
          let last : c.loop-col.col ≡ length table.widths = omega (arith, wide) in
          let within : c.loop-col.col ≤ length table.widths = omega (arith, last) in
          let more = verticals-more table _ _ _ w.in_ok-push.ensures.items w.is_some.ensures w.vertical_at.ensures within c.loop-col.invariant.0 c.loop-col.invariant.1 in
          rw w.lines-is (more.0 ∙ ap (λ n. n + 1) last, λ texts i other below. more.1 texts i other (omega (arith, below, last)))
    ] in
    record { many = known.0; each = λ texts j other within. known.1 texts j other (omega (arith, within)) }
