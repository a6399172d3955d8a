use Rattle.std.proofs.Common.{◌∙◌, ap, slice_index}
use Rattle.std.proofs.lemmas.Result.{err_from_is_err_and}
use Rattle.std.specs.Prelude.{string_bytes}
use Rattle.papergrid_tracks.specs.Sizes.{sizes_of}
use Rattle.papergrid_values.specs.declared.direction.Direction.TheVariants.{Columns}
use Rattle.papergrid_maps.specs.Grids.{compact_grid}
use Rattle.papergrid_walk.specs.Measures.{std_line_measure}
use Rattle.papergrid_checks.specs.Rows.{cells_of}
use Rattle.papergrid_checks.proofs.RowLemmas.{one_refused, one_told}
use Rattle.papergrid_tracks.specs.declared.sizing.Sizing.TheVariants.{ByShares}
use Rattle.papergrid_checks.proofs.dimensions.of_compact.Goals as goal

pub returns-in_err-estimate : goal.returns-in_err-estimate
returns-in_err-estimate c =
    let p = err_from_is_err_and c.from_residual.result c.from_residual.ensures.1 in
    let told = rw c.new.ensures at c.in_err-estimate.ensures.err in
    rw (p.1, p.2) (one_refused (compact_grid c.args.config.now) (λ cell. cell.now) (std_line_measure string_bytes) 3 (cells_of c.args.rows.now) ByShares Columns _ told)

pub returns : goal.returns
returns c =
    let told = rw c.new.ensures at c.in_ok-estimate.ensures.ok in
    let same = one_told (compact_grid c.args.config.now) (λ cell. cell.now) (std_line_measure string_bytes) 3 (cells_of c.args.rows.now) told.0 told.1 Columns in
    c.get_width.ensures ∙ ap (λ widths. slice_index widths 0) told.2.exact ∙ ap (λ problem. slice_index (sizes_of problem) 0) same
