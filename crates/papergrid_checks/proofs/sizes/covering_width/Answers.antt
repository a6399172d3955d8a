use Rattle.papergrid_tracks.specs.declared.sizing.Sizing.TheVariants.{ByShares}
use Rattle.papergrid_values.specs.declared.direction.Direction.TheVariants.{Columns}
use Rattle.papergrid_walk.specs.Cells.{problem_of}
use Rattle.papergrid_config.specs.Grids.{spanned_grid}
use Rattle.papergrid_walk.specs.Measures.{line_measure}
use Rattle.papergrid_checks.proofs.AnswerLemmas.{answer_covers, fitting_total, said_of_cells}
use Rattle.papergrid_checks.proofs.sizes.covering_width.Goals as goal

pub returns-clause-fits : goal.returns-clause-fits
returns-clause-fits g c =
    let measure = line_measure g.R.Iter.Cell.AsStr.text in
    let columns = g.R.Records.columns c.args.records in
    said_of_cells (g.R.Records.tells c.args.records) _ _
    (λ cells result. fitting_total (problem_of (spanned_grid c.args.config.now) measure columns cells Columns) result) _ c.width_total.ensures

pub returns-clause-covers : goal.returns-clause-covers
returns-clause-covers g c =
    let grid = spanned_grid c.args.config.now in
    let measure = line_measure g.R.Iter.Cell.AsStr.text in
    let columns = g.R.Records.columns c.args.records in
    said_of_cells (g.R.Records.tells c.args.records) _ _
    (λ cells result. answer_covers (problem_of grid measure columns cells Columns) _ (λ total is. c.total_covers_cells.ensures.sizes ByShares grid measure columns cells Columns total is) result)
    _ c.width_total.ensures
