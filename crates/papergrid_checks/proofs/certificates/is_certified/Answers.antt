use Rattle.std.proofs.lemmas.Result.{err_from_is_err_and}
use Rattle.papergrid_values.specs.declared.direction.Direction.TheVariants.{Columns}
use Rattle.papergrid_config.specs.Grids.{spanned_grid}
use Rattle.papergrid_checks.specs.Rows.{cells_of, lent_measure}
use Rattle.papergrid_checks.proofs.CertificateLemmas.{certified_told, none_told}
use Rattle.papergrid_checks.proofs.RowLemmas.{one_refused}
use Rattle.papergrid_tracks.specs.declared.sizing.Sizing.TheVariants.{ByShares}
use Rattle.papergrid_checks.proofs.certificates.is_certified.Goals as goal

pub returns-in_err-widths : goal.returns-in_err-widths
returns-in_err-widths c =
    let p = err_from_is_err_and c.from_residual.result c.from_residual.ensures.1 in
    let told = rw c.new-records.ensures at c.in_err-widths.ensures in
    rw (p.1, p.2) (one_refused (spanned_grid c.args.config.now) (λ cell. cell.now) lent_measure 3 (cells_of c.args.rows.now) ByShares Columns _ told)

pub returns-in_err-cells : goal.returns-in_err-cells
returns-in_err-cells c =
    let p = err_from_is_err_and c.from_residual-in_err-cells.result c.from_residual-in_err-cells.ensures.1 in
    let told = rw c.new-records.ensures at c.in_err-cells.ensures in
    rw (p.1, p.2) (one_refused (spanned_grid c.args.config.now) (λ cell. cell.now) lent_measure 3 (cells_of c.args.rows.now) ByShares Columns _ told)

pub returns-in-Some : goal.returns-in-Some
returns-in-Some c =
    let are = rw c.new-records.ensures at c.in_ok-widths.ensures in
    let found = rw c.in-Some.is at c.in_ok-cells.ensures in
    let chosen = rw c.new-records.ensures at found in
    let lent = rw (c.deref.ensures.value, c.deref-in-Some.ensures.value) at c.check_width_witness.ensures in
    let checked = rw c.new-records.ensures at lent in
    certified_told (spanned_grid c.args.config.now) (λ cell. cell.now) lent_measure 3 (cells_of c.args.rows.now) Columns _ _ _ are chosen checked

pub returns : goal.returns
returns c =
    let found = rw c.in-None.is at c.in_ok-cells.ensures in
    let none = rw c.new-records.ensures at found in
    none_told (spanned_grid c.args.config.now) (λ cell. cell.now) lent_measure 3 (cells_of c.args.rows.now) Columns none
