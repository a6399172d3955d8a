use Rattle.papergrid_config.specs.Grids.{spanned_grid}
use Rattle.papergrid_checks.specs.Rows.{cells_of, lent_measure}
use Rattle.papergrid_checks.proofs.RowLemmas.{refused_on, sizes_told}
use Rattle.papergrid_tracks.proofs.BySizing.{AreSizes}
use Rattle.papergrid_tracks.specs.declared.sizing.Sizing.TheVariants.{ByShares}
use Rattle.papergrid_checks.proofs.sizes.sizes.Goals as goal

pub returns-in_err-estimate : goal.returns-in_err-estimate
returns-in_err-estimate c = refused_on (spanned_grid c.args.config.now) (λ cell. cell.now) lent_measure 3 (cells_of c.args.rows.now) ByShares _ _ _ c.from_residual.ensures.1 (rw c.new.ensures at c.in_err-estimate.ensures.err)

pub returns : goal.returns
returns c = sizes_told (spanned_grid c.args.config.now) (λ cell. cell.now) lent_measure 3 (cells_of c.args.rows.now) AreSizes _ _ _ _ c.get_values.ensures.widths c.get_values.ensures.heights (rw c.new.ensures at c.in_ok-estimate.ensures.ok)
