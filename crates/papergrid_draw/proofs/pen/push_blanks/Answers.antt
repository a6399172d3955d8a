use Rattle.std.proofs.Common.{◌≡◌, ◌-◌, ◌++◌, ◌∙◌, ℕ, replicate, string_bytes, arith, ap, sym, subst}
use Rattle.std.specs.Str.{IsCharBoundary}
use Rattle.std.proofs.lemmas.List.{append-nil, length-replicate}
use Rattle.std.proofs.lemmas.Str.{IsCharBoundary-from_ascii}
use Rattle.papergrid_draw.proofs.PenLemmas.{added_blanks, blanks-ascii, blanks-front}
use Rattle.papergrid_draw.proofs.pen.push_blanks.Goals as goal

pub loop-left-init : goal.loop-left-init
loop-left-init c =
    let none : c.args.count - c.args.count ≡ 0 = omega arith in
    (omega arith, sym (ap (λ n. string_bytes c.args.line.now ++ replicate n 32) none ∙ append-nil _))

pub loop-left-preserved : goal.loop-left-preserved
loop-left-preserved c = (
  omega arith,
  added_blanks _ _ _ (c.args.count - c.loop-left.left) 64 _ c.loop-left.invariant.1
      (c.in_ok-push_str.ensures.bytes ∙ ap (λ blanks. string_bytes c.loop-left.line ++ blanks) c.blanks-blanks.ensures) (omega arith),
)

pub range-requires-clause-end_boundary : goal.range-requires-clause-end_boundary
range-requires-clause-end_boundary c =
    subst (λ blanks. IsCharBoundary blanks c.loop-left.left) (sym c.blanks-blanks.ensures)
    (IsCharBoundary-from_ascii (replicate 64 32) c.loop-left.left (blanks-ascii 64) (omega (arith, length-replicate {A = ℕ} 64 32)))

pub returns : goal.returns
returns c =
    added_blanks _ _ _ (c.args.count - c.loop-left.left) c.loop-left.left _ c.loop-left.invariant.1
    (c.in_ok-push_str-2.ensures.bytes ∙ ap (λ blanks. string_bytes c.loop-left.line ++ blanks)
    (c.range.ensures.value ∙ blanks-front _ 64 c.loop-left.left c.blanks-blanks.ensures (omega arith))) (omega arith)
