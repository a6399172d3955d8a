use Rattle.std.proofs.Common.{◌∙◌, subst, sym}
use Rattle.papergrid_tracks.specs.Sizings.{Answers, IsSolvedBy}
use Rattle.papergrid_tracks.specs.ForProofs.Demands.{AreGathered}
use Rattle.papergrid_tracks.specs.ForProofs.LeastSettled.{CertifiesInOrder}
use Rattle.papergrid_walk.specs.Cells.{count_along, demands_of, problem_of, problem_with}
use Rattle.papergrid_walk.proofs.Distinct.{in_order-demands}
use Rattle.papergrid_layout.proofs.AnswerLemmas.{unless}
use Rattle.papergrid_layout.proofs.CertifiedLemmas.{answers-in_order}
use Rattle.papergrid_layout.proofs.along.solve_along.Goals as goal

pub returns : goal.returns
returns g c =
    let grid = g.S.ConfigView.grid c.args.settings.now in
    let measured = g.M.Measure.measured in
    let found = c.in_ok-kept.ensures in
    let demands = demands_of c.args.direction grid measured found.0 in
    let same = c.count_of-count.ensures ∙ (λ k. count_along c.args.direction (c.count_columns-columns.ensures k) (found.2.1 k)) in
    let solved = c.solve.ensures demands (subst (λ n. AreGathered n c.in_ok-kept.kept demands) (sym same) found.2.0) in
    unless c.solve.result _ (
      found.0,
      found.1,
      answers-in_order g.T.Solver.sizing c.args.certify (problem_of grid measured (g.R.Records.columns c.args.records) found.0 c.args.direction)
          (in_order-demands c.args.direction grid measured found.0) c.solve.result
          (subst (λ n. Answers g.T.Solver.sizing (IsSolvedBy g.T.Solver.sizing (CertifiesInOrder g.T.Solver.sizing) c.args.certify) (problem_with grid measured c.args.direction n found.0) c.solve.result) same solved),
    )
