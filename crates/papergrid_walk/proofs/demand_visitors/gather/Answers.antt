use Rattle.std.proofs.Common.{[], ap, arith, length, subst, ◌∙◌}
use Rattle.papergrid_tracks.specs.ForProofs.Demands.{HoldsDemands}
use Rattle.papergrid_walk.specs.Cells.{demands_of}
use Rattle.papergrid_walk.specs.ForProofs.Limits.{limit_along}
use Rattle.papergrid_walk.proofs.Distinct.{AreGathered-demands, count-le}
use Rattle.papergrid_walk.proofs.demand_visitors.gather.Goals as goal

pub returns : goal.returns
returns g c =
    let grid = g.S.ConfigView.grid c.args.settings.now in
    let columns = g.R.Records.columns c.args.records in
    let found = c.in_ok-rows.ensures.consumed in
    let first = subst (λ n. HoldsDemands n c.new-2.result []) (c.limit_of-limit.ensures ∙ ap (limit_along c.args.direction) c.count_columns.ensures) c.new-2.ensures in (
      found.0,
      found.1,
      (
        AreGathered-demands c.args.direction grid g.M.Measure.measured columns found.0 c.walk.new.visitor.kept
            (count-le c.args.direction columns (length found.0) (omega (arith, found.2.1)))
            (subst (λ l. HoldsDemands (limit_along c.args.direction columns) c.walk.new.visitor.kept (demands_of c.args.direction l g.M.Measure.measured found.0))
            (ap g.S.ConfigView.grid c.in_ok-new.ensures.0) (found.2.0.2 (limit_along c.args.direction columns) [] first)),
        found.2.1,
      ),
    )
