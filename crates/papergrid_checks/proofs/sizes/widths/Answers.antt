use Rattle.papergrid_values.specs.declared.direction.Direction.TheVariants.{Columns}
use Rattle.papergrid_config.specs.Grids.{spanned_grid}
use Rattle.papergrid_checks.specs.Rows.{cells_of, lent_measure}
use Rattle.papergrid_checks.proofs.RowLemmas.{answers_told}
use Rattle.papergrid_tracks.proofs.BySizing.{AreSizes}
use Rattle.papergrid_tracks.specs.declared.sizing.Sizing.TheVariants.{ByShares}
use Rattle.papergrid_checks.proofs.sizes.widths.Goals as goal

pub returns-clause-exact : goal.returns-clause-exact
returns-clause-exact c =
    let told = rw c.new.ensures at c.width.ensures in
    answers_told (spanned_grid c.args.config.now) (λ cell. cell.now) lent_measure c.args.columns (cells_of c.args.rows.now) ByShares (λ problem sizes. AreSizes problem sizes.items) Columns _ told
