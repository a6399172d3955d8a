use Rattle.std.proofs.Common.{◌-◌, ◌≤◌, refl, subst₂, arith}
use Rattle.std.proofs.lemmas.List.{get_or_default}
use Rattle.papergrid_values.specs.declared.position.Position.{Position}
use Rattle.papergrid_tracks.specs.ForProofs.Checks.{AreInOrder}
use Rattle.papergrid_tracks.proofs.CandidateLemmas.{AreInOrder-trans, chain-more}
use Rattle.papergrid_tracks.proofs.candidate.are_in_order.Goals as goal

abbrev no_position : Position
no_position = record { row = 0; col = 0 }

pub loop-i-preserved : goal.loop-i-preserved
loop-i-preserved g c =
    let span_of = g.A.Axis.span_of c.args.axis.now in
    let order = AreInOrder c.args.direction span_of in
    let next = c.if-not-is_before.ensures.0 refl in
    let one : 1 ≤ c.loop-i.i = c.loop-i.invariant.0 in (
      omega arith,
      chain-more order (AreInOrder-trans c.args.direction span_of) c.args.positions.now c.loop-i.i one c.loop-i.invariant.1
          (λ p. subst₂ order (get_or_default c.args.positions.now (c.loop-i.i - 1) no_position p (omega (arith, c.loop-i-test.true))) (get_or_default c.args.positions.now c.loop-i.i no_position p (omega (arith, c.loop-i-test.true))) next),
    )

pub returns : goal.returns
returns g c = ((λ t i j p l l'. c.loop-i.invariant.1 i j p l (omega arith)), λ pairs. refl)
