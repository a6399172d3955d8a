use Rattle.std.proofs.Common.{[]}
use Rattle.papergrid_layout.proofs.check.check_rows.Goals as goal

pub returns-clause-checks : goal.returns-clause-checks
returns-clause-checks g c =
    let grid = g.S.ConfigView.grid c.args.settings.now in
    let candidate = c.args.candidate.now in
    let found = c.in-Ok.ensures.consumed in
    (found.0, found.1, (found.2.0.2 [] (c.new.ensures.checks (grid.draws candidate.direction _) candidate.sizes.now candidate.positions.now candidate.direction (grid.span candidate.direction)), found.2.1))

pub returns-clause-bounded : goal.returns-clause-bounded
returns-clause-bounded g c = let found = returns-clause-checks g c in found.2.0.bounded
