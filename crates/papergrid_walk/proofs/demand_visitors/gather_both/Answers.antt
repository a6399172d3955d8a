use Rattle.std.proofs.Common.{[], ap, arith, length, subst, ◌∙◌}
use Rattle.papergrid_values.specs.declared.direction.Direction.TheVariants.{Columns, Rows}
use Rattle.papergrid_tracks.specs.ForProofs.Demands.{HoldsDemands}
use Rattle.papergrid_walk.specs.Cells.{demands_of}
use Rattle.papergrid_walk.specs.ForProofs.Limits.{limit_along}
use Rattle.papergrid_walk.proofs.Distinct.{AreGathered-demands, count-le}
use Rattle.papergrid_walk.proofs.demand_visitors.gather_both.Goals as goal

pub returns : goal.returns
returns g c =
    let grid = g.S.ConfigView.grid c.args.settings.now in
    let columns = g.R.Records.columns c.args.records in
    let found = c.in_ok-rows.ensures.consumed in
    let same = ap g.S.ConfigView.grid c.in_ok-new.ensures.0 in
    let few = count-le Rows columns (length found.0) (omega (arith, found.2.1)) in
    let wide = subst (λ n. HoldsDemands n c.new-2.result []) (c.limit_of.ensures ∙ c.count_columns-columns.ensures) c.new-2.ensures in
    let high = subst (λ n. HoldsDemands n c.new-3.result []) c.limit_of-2.ensures c.new-3.ensures in (
      found.0,
      found.1,
      (
        record {
          wide = AreGathered-demands Columns grid g.M.Measure.measured columns found.0 c.walk.new.visitor.both.columns (omega arith)
              (subst (λ l. HoldsDemands columns c.walk.new.visitor.both.columns (demands_of Columns l g.M.Measure.measured found.0)) same (found.2.0.1.0 columns [] wide));
          high = AreGathered-demands Rows grid g.M.Measure.measured columns found.0 c.walk.new.visitor.both.rows few
              (subst (λ l. HoldsDemands (limit_along Rows columns) c.walk.new.visitor.both.rows (demands_of Rows l g.M.Measure.measured found.0)) same (found.2.0.1.1 (limit_along Rows columns) [] high));
        },
        found.2.1,
      ),
    )
