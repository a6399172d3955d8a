use Rattle.std.proofs.lemmas.Result.{err_from_is_err_and}
use Rattle.std.specs.Prelude.{string_bytes}
use Rattle.papergrid_text.specs.Cut.{cut_rows}
use Rattle.papergrid_config.specs.Grids.{spanned_grid}
use Rattle.papergrid_walk.specs.Measures.{line_measure}
use Rattle.papergrid_checks.proofs.RowLemmas.{both_refused, both_told}
use Rattle.papergrid_tracks.proofs.BySizing.{AreSizes}
use Rattle.papergrid_tracks.specs.declared.sizing.Sizing.TheVariants.{ByShares}
use Rattle.papergrid_checks.proofs.own.of_flat.Goals as goal

pub returns-in_err-estimate : goal.returns-in_err-estimate
returns-in_err-estimate c =
    let p = err_from_is_err_and c.from_residual.result c.from_residual.ensures.1 in
    let flat = c.args.flat.now in
    rw (p.1, p.2) (both_refused (spanned_grid c.args.config.now) (λ cell. cell.now) (line_measure string_bytes) flat.columns (cut_rows flat.columns flat.texts.items) ByShares _ c.in_err-estimate.ensures.err)

pub returns : goal.returns
returns c =
    let told = c.in_ok-estimate.ensures.ok in
    let flat = c.args.flat.now in
    let both = both_told (spanned_grid c.args.config.now) (λ cell. cell.now) (line_measure string_bytes) flat.columns (cut_rows flat.columns flat.texts.items) told.0 told.1 AreSizes _ _ told.2 in
    record {
      widths = rw c.get_values.ensures.widths both.widths;
      heights = rw c.get_values.ensures.heights both.heights;
    }
