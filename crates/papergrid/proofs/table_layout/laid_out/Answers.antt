use Rattle.papergrid_walk.specs.Measures.{line_measure}
use Rattle.papergrid.specs.Layouts.{IsLaidOut}
use Rattle.papergrid.proofs.ConfiguredLemmas.{configured_read}
use Rattle.papergrid.proofs.table_layout.laid_out.Goals as goal

pub returns : goal.returns
returns g c =
    configured_read (g.R.Records.tells c.args.records)
    (λ grid cells result. IsLaidOut grid (line_measure g.R.Iter.Cell.AsStr.text) (g.R.Records.columns c.args.records) cells g.T.Solver.sizing result)
    c.args.settings.items c.in_ok-config.config c.in_ok-config.ensures c.estimated.result c.estimated.ensures.ok c.estimated.ensures.err
