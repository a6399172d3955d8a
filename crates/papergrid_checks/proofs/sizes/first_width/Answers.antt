use Rattle.std.proofs.Common.{◌∙◌, ap, slice_index}
use Rattle.std.proofs.lemmas.Result.{err_from_is_err_and}
use Rattle.papergrid_config.specs.Grids.{spanned_grid}
use Rattle.papergrid_checks.specs.Rows.{cells_of, lent_measure}
use Rattle.papergrid_checks.proofs.RowLemmas.{both_refused, both_told}
use Rattle.papergrid_tracks.proofs.BySizing.{AreSizes}
use Rattle.papergrid_tracks.specs.declared.sizing.Sizing.TheVariants.{ByShares}
use Rattle.papergrid_checks.proofs.sizes.first_width.Goals as goal

pub returns-in_err-estimate : goal.returns-in_err-estimate
returns-in_err-estimate c =
    let p = err_from_is_err_and c.from_residual.result c.from_residual.ensures.1 in
    let told = rw c.new.ensures at c.in_err-estimate.ensures.err in
    rw (p.1, p.2) (both_refused (spanned_grid c.args.config.now) (λ cell. cell.now) lent_measure 3 (cells_of c.args.rows.now) ByShares _ told)

pub returns : goal.returns
returns c =
    let told = rw c.new.ensures at c.in_ok-estimate.ensures.ok in
    let both = both_told (spanned_grid c.args.config.now) (λ cell. cell.now) lent_measure 3 (cells_of c.args.rows.now) told.0 told.1 AreSizes _ _ told.2 in
    c.get_width.ensures ∙ ap (λ widths. slice_index widths 0) both.widths.exact
