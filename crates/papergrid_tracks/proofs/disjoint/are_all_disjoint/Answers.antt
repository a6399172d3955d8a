use Rattle.std.proofs.Common.{ℕ, refl, arith}
use Rattle.std.proofs.lemmas.Bool.{false≢true}
use Rattle.papergrid_values.specs.declared.position.Position.{Position}
use Rattle.papergrid_tracks.specs.ForProofs.Checks.{AreDisjointAt}
use Rattle.papergrid_tracks.specs.Ranges.{demand_of}
use Rattle.papergrid_tracks.proofs.Certified.{AreDisjoint-sym}
use Rattle.papergrid_tracks.proofs.PairLemmas.{pairs-more, pairs-before}
use Rattle.papergrid_tracks.proofs.disjoint.are_all_disjoint.Goals as goal

abbrev no_position : Position
no_position = record { row = 0; col = 0 }

pub returns-then-not-is_disjoint : goal.returns-then-not-is_disjoint
returns-then-not-is_disjoint g c =
    let span_of : Position → ℕ = g.A.Axis.span_of c.args.axis.now in (
      (λ t. absurd (false≢true t)),
      λ pairs. c.if-not-is_disjoint.ensures.1
          (pairs-before (AreDisjointAt c.args.direction span_of) (λ p q. AreDisjoint-sym (demand_of c.args.direction p (span_of p) 0) (demand_of c.args.direction q (span_of q) 0))
          c.args.positions.now c.loop-i.i no_position c.loop-i-test.true pairs),
    )

pub loop-i-preserved : goal.loop-i-preserved
loop-i-preserved g c =
    let span_of : Position → ℕ = g.A.Axis.span_of c.args.axis.now in
    pairs-more (AreDisjointAt c.args.direction span_of) (λ p q. AreDisjoint-sym (demand_of c.args.direction p (span_of p) 0) (demand_of c.args.direction q (span_of q) 0))
    c.args.positions.now c.loop-i.i no_position c.loop-i-test.true c.loop-i.invariant (c.if-not-is_disjoint.ensures.0 refl)

pub returns : goal.returns
returns g c = ((λ t j k p lt lt'. c.loop-i.invariant j k p lt (omega arith)), λ pairs. refl)
