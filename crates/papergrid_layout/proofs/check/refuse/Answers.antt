use Rattle.papergrid_layout.proofs.CheckSteps.{refused-of}
use Rattle.papergrid_layout.proofs.check.refuse.Goals as goal

pub returns : goal.returns
returns g c =
    let grid = g.S.ConfigView.grid c.args.settings.now in
    let found = c.check_rows.ensures.checks in
    (found.0, found.1, refused-of grid g.M.Measure.measured _ found.0 c.args.direction c.args.sizes.now c.args.positions.now found.2.0.spans c.requires.reason)
