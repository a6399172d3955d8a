use Rattle.std.proofs.Common.{refl, sym, subst, length}
use Rattle.std.proofs.lemmas.Bool.{false≢true}
use Rattle.papergrid_tracks.specs.Answers.{IsAccepted}
use Rattle.papergrid_tracks.specs.Fits.{IsLeast}
use Rattle.papergrid_tracks.specs.Problem.{problem_of_demands}
use Rattle.papergrid_tracks.proofs.AcceptLemmas.{accepted-from, sums-from_accepted, disjoint-from_accepted, IsLeast-accepted}
use Rattle.papergrid_tracks.proofs.checked.accepts.Goals as goal

pub returns-then-not-sums_agree-clause-exact : goal.returns-then-not-sums_agree-clause-exact
returns-then-not-sums_agree-clause-exact g c = λ demands distinct checks. (
  (λ t. absurd (false≢true t)),
  λ accepted. c.if-not-sums_agree.ensures.1
      (sums-from_accepted (g.A.Axis.line c.args.axis.now) c.args.candidate.now.sizes.now c.args.candidate.now.positions.now c.args.candidate.now.direction (g.A.Axis.span_of c.args.axis.now) c.args.checked demands checks distinct
      (subst (λ n. IsAccepted (problem_of_demands (g.A.Axis.line c.args.axis.now) n demands) c.args.candidate.now.sizes.now c.args.candidate.now.positions.now) (sym c.if-candidate-count.false) accepted)),
)

pub returns-clause-exact : goal.returns-clause-exact
returns-clause-exact g c = λ demands distinct checks. (
  (λ t. subst (λ n. IsAccepted (problem_of_demands (g.A.Axis.line c.args.axis.now) n demands) c.args.candidate.now.sizes.now c.args.candidate.now.positions.now) c.if-candidate-count.false
      (accepted-from (g.A.Axis.line c.args.axis.now) c.args.candidate.now.sizes.now c.args.candidate.now.positions.now c.args.candidate.now.direction (g.A.Axis.span_of c.args.axis.now) c.args.checked demands checks distinct
      (c.if-not-sums_agree.ensures.0 refl) (c.are_disjoint.ensures.0 t))),
  λ accepted. c.are_disjoint.ensures.1
      (disjoint-from_accepted (g.A.Axis.line c.args.axis.now) c.args.candidate.now.sizes.now c.args.candidate.now.positions.now c.args.candidate.now.direction (g.A.Axis.span_of c.args.axis.now) c.args.checked demands checks distinct
      (subst (λ n. IsAccepted (problem_of_demands (g.A.Axis.line c.args.axis.now) n demands) c.args.candidate.now.sizes.now c.args.candidate.now.positions.now) (sym c.if-candidate-count.false) accepted)),
)

pub returns-clause-least : goal.returns-clause-least
returns-clause-least g c = λ demands distinct checks t.
    subst (λ n. IsLeast (problem_of_demands (g.A.Axis.line c.args.axis.now) n demands) c.args.candidate.now.sizes.now) c.if-candidate-count.false
    (IsLeast-accepted (g.A.Axis.line c.args.axis.now) (length c.args.candidate.now.sizes.now) demands c.args.candidate.now.sizes.now c.args.candidate.now.positions.now checks.spans
    (accepted-from (g.A.Axis.line c.args.axis.now) c.args.candidate.now.sizes.now c.args.candidate.now.positions.now c.args.candidate.now.direction (g.A.Axis.span_of c.args.axis.now) c.args.checked demands checks distinct
    (c.if-not-sums_agree.ensures.0 refl) (c.are_disjoint.ensures.0 t)))
