use Rattle.papergrid_tracks.specs.declared.sizing.Sizing.TheVariants.{ByShares}
use Rattle.papergrid_config.specs.History.{HasSettingHistory}
use Rattle.papergrid_checks.specs.Rows.{cells_of, lent_measure}
use Rattle.papergrid_checks.proofs.RowLemmas.{laid_told}
use Rattle.papergrid_checks.proofs.settings.laid_out.Goals as goal

pub returns : goal.returns
returns c =
    let told = rw c.new.ensures at c.layout.ensures in
    laid_told (HasSettingHistory c.args.settings.items) (λ cell. cell.now) lent_measure 3 (cells_of c.args.rows.now) ByShares _ told
