use Rattle.std.proofs.Common.{◌∙◌, refl, subst}
use Rattle.papergrid_tracks.specs.Problem.{problem_of_demands}
use Rattle.papergrid_walk.specs.Cells.{count_along, demands_of, problem_with}
use Rattle.papergrid_walk.proofs.Distinct.{AreDistinct-demands}
use Rattle.papergrid_layout.specs.Certificates.{IsChecked}
use Rattle.papergrid_layout.proofs.CheckSteps.{checked-of}
use Rattle.papergrid_layout.proofs.check.check_candidate.Goals as goal

pub returns : goal.returns
returns g c =
    let candidate = c.args.candidate.now in
    let grid = g.S.ConfigView.grid c.args.settings.now in
    let measured = g.M.Measure.measured in
    let found = c.check_rows-rows.ensures.checks in
    let demands = demands_of candidate.direction grid measured found.0 in
    let distinct = AreDistinct-demands candidate.direction grid measured found.0 in
    let same = c.count_of-count.ensures ∙ (λ k. count_along candidate.direction (c.count_columns-columns.ensures k) (found.2.1 k)) in (
      found.0,
      found.1,
      subst (λ n. IsChecked (problem_with grid measured candidate.direction n found.0) candidate.sizes.now candidate.positions.now c.accepts.result) same
          (checked-of (λ n. problem_of_demands (grid.draws candidate.direction n) c.count_of-count.result demands) candidate.sizes.now candidate.positions.now c.accepts.result c.count_of-count.result (λ n. refl)
          (c.accepts.ensures.exact demands distinct found.2.0) (c.accepts.ensures.least demands distinct found.2.0)),
    )
