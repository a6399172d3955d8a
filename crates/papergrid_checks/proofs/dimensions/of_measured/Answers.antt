use Rattle.papergrid_text.specs.HeldRows.{column_count, rows_held}
use Rattle.papergrid_config.specs.Grids.{spanned_grid}
use Rattle.papergrid_checks.specs.Rows.{cells_of, kept_measure}
use Rattle.papergrid_checks.proofs.RowLemmas.{refused_on, sizes_told}
use Rattle.papergrid_tracks.proofs.BySizing.{AreSizes}
use Rattle.papergrid_tracks.specs.declared.sizing.Sizing.TheVariants.{ByShares}
use Rattle.papergrid_checks.proofs.dimensions.of_measured.Goals as goal

pub returns-in_err-estimate : goal.returns-in_err-estimate
returns-in_err-estimate c =
    let records = c.args.records.now in
    refused_on (spanned_grid c.args.config.now) (λ cell. cell.now) kept_measure (column_count records) (cells_of (rows_held records).items) ByShares _ _ _ c.from_residual.ensures.1 c.in_err-estimate.ensures.err

pub returns : goal.returns
returns c =
    let records = c.args.records.now in
    sizes_told (spanned_grid c.args.config.now) (λ cell. cell.now) kept_measure (column_count records) (cells_of (rows_held records).items) AreSizes _ _ _ _ c.get_values.ensures.widths c.get_values.ensures.heights c.in_ok-estimate.ensures.ok
