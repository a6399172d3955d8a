use Rattle.std.proofs.Common.{refl, sym, arith, take, take_all}
use Rattle.std.proofs.lemmas.List.Elements.{All-more, All-same}
use Rattle.papergrid_values.specs.declared.position.Position.{Position}
use Rattle.papergrid_tracks.specs.ForProofs.Checks.{AreDisjointAt}
use Rattle.papergrid_tracks.proofs.disjoint.is_disjoint.Goals as goal

abbrev no_position : Position
no_position = record { row = 0; col = 0 }

pub loop-other-preserved : goal.loop-other-preserved
loop-other-preserved g c =
    All-more (AreDisjointAt c.args.direction (g.A.Axis.span_of c.args.axis.now) c.args.position) c.args.others.now c.loop-other.other-index no_position c.loop-other-test.true
    c.loop-other.invariant (c.if-not-are_disjoint.ensures.0 refl)

pub returns : goal.returns
returns g c = (
  (λ t. All-same (AreDisjointAt c.args.direction (g.A.Axis.span_of c.args.axis.now) c.args.position) c.args.others.now (take c.loop-other.other-index c.args.others.now)
      (sym (take_all c.loop-other.other-index c.args.others.now (omega arith))) c.loop-other.invariant),
  λ all. refl,
)
