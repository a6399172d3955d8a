use Rattle.std.proofs.Common.{◌∙◌, sym}
use Rattle.papergrid_layout.proofs.CheckSteps.{check_same, check_shown}
use Rattle.papergrid_layout.proofs.check.check_cell.Goals as goal

pub returns-then-is_unchanged-clause-checks : goal.returns-then-is_unchanged-clause-checks
returns-then-is_unchanged-clause-checks g c =
    check_same (g.S.ConfigView.grid c.args.settings.now) c.args.candidate.now g.M.Measure.measured c.args.checked c.visit-visited.result c.args.position c.args.cell.now _ _
    (c.is_unchanged.ensures.0 c.if-is_unchanged.true) c.measure_along-size.ensures c.minimum_along-minimum.ensures.sum c.visit-visited.ensures.checks

pub returns-then-is_shown-clause-checks : goal.returns-then-is_shown-clause-checks
returns-then-is_shown-clause-checks g c =
    check_shown (g.S.ConfigView.grid c.args.settings.now) c.args.candidate.now g.M.Measure.measured c.args.checked c.visit-visited.result c.args.position c.args.cell.now _ _
    (sym c.is_shown.ensures ∙ c.if-is_shown.true) c.measure_along-size.ensures c.minimum_along-minimum.ensures.sum c.visit-visited.ensures.checks
