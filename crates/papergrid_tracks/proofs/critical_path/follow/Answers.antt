use Rattle.std.proofs.Common.{◌≡◌, ℕ, ◌+◌, ◌-◌, ◌∙◌, ◌++◌, length, get_or, sym, ap, ap₂, arith, map, List, Vec, Global}
use Rattle.std.specs.Prelude.{Some}
use Rattle.papergrid_values.specs.declared.position.Position.{Position}
use Rattle.papergrid_tracks.specs.Ranges.{position_of}
use Rattle.papergrid_tracks.specs.ForProofs.Followed.{earlier_cell, followed_cells, kept_longer, kept_single, with_minimum}
use Rattle.papergrid_tracks.proofs.FollowedLemmas.{met-cell, met-even, met-none, none-from, starts-within}
use Rattle.papergrid_tracks.proofs.critical_path.follow.Goals as goal
use Rattle.papergrid_tracks.proofs.critical_path.follow.Goals.{then-step-eq0, else-step-eq0+in-Some+in_ok-push}

pub returns-in_default : goal.returns-in_default
returns-in_default c =
    met-none (λ i. get_or c.args.lowest_position.now i 0) (kept_single c.args.single_span.now) (kept_longer c.args.tight_cells.now) (length c.args.lowest_position.now) c.loop.counter c.loop.number c.saturating_sub-before.result
    c.loop.positions.items _ (omega arith) (omega arith) c.loop.invariant.positions c.if-step-eq0.false
    (ap (λ one. earlier_cell one (kept_longer c.args.tight_cells.now c.loop.number)) (sym c.with_minimum-single.ensures) ∙ sym c.earlier_cell.ensures ∙ none-from _ c.in_default.not-Some)

pub loop-preserved : goal.loop-preserved
loop-preserved c = elim c.if-step-eq0.branch [
  | then-step-eq0 w ↦ record {
    number = omega (arith, w.number-is);
    positions = ap₂ (λ (v : Vec Position Global) (k : ℕ). v.items ++ map position_of (followed_cells (λ i. get_or c.args.lowest_position.now i 0) (kept_single c.args.single_span.now) (kept_longer c.args.tight_cells.now) (length c.args.lowest_position.now - (c.loop.counter + 1)) k)) w.positions-is w.number-is
        ∙ met-even (λ i. get_or c.args.lowest_position.now i 0) (kept_single c.args.single_span.now) (kept_longer c.args.tight_cells.now) (length c.args.lowest_position.now) c.loop.counter c.loop.number c.saturating_sub-before.result
        c.loop.positions.items _ (omega arith) (omega arith) c.loop.invariant.positions w.if-step-eq0.true;
  }
  | else-step-eq0+in-Some+in_ok-push w ↦
      let found : earlier_cell (with_minimum (get_or c.args.lowest_position.now c.loop.number 0 - get_or c.args.lowest_position.now c.saturating_sub-before.result 0) (kept_single c.args.single_span.now c.saturating_sub-before.result))
      (kept_longer c.args.tight_cells.now c.loop.number) ≡ Some w.in-Some.cell =
      ap (λ one. earlier_cell one (kept_longer c.args.tight_cells.now c.loop.number)) (sym w.with_minimum-single.ensures) ∙ sym w.earlier_cell.ensures ∙ w.in-Some.is in
      record {
        number = let l = starts-within (λ i. get_or c.args.lowest_position.now i 0) (kept_single c.args.single_span.now) (kept_longer c.args.tight_cells.now) (length c.args.lowest_position.now) c.loop.number c.saturating_sub-before.result
            (omega arith) (omega arith) w.if-step-eq0.false c.requires.alone c.requires.starts w.in-Some.cell found in
            omega (arith, w.number-is, l);
        positions = ap₂ (λ (v : Vec Position Global) (k : ℕ). v.items ++ map position_of (followed_cells (λ i. get_or c.args.lowest_position.now i 0) (kept_single c.args.single_span.now) (kept_longer c.args.tight_cells.now) (length c.args.lowest_position.now - (c.loop.counter + 1)) k)) w.positions-is w.number-is
            ∙ ap (λ (xs : List Position). xs ++ map position_of (followed_cells (λ i. get_or c.args.lowest_position.now i 0) (kept_single c.args.single_span.now) (kept_longer c.args.tight_cells.now) (length c.args.lowest_position.now - (c.loop.counter + 1)) w.in-Some.cell.start)) w.in_ok-push.ensures.items
            ∙ met-cell (λ i. get_or c.args.lowest_position.now i 0) (kept_single c.args.single_span.now) (kept_longer c.args.tight_cells.now) (length c.args.lowest_position.now) c.loop.counter c.loop.number c.saturating_sub-before.result
            c.loop.positions.items _ (omega arith) (omega arith) c.loop.invariant.positions w.if-step-eq0.false w.in-Some.cell found w.position.result w.position.ensures;
      }
]
