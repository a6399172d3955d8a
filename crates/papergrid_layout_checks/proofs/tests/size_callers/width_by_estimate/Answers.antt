use Rattle.std.proofs.Common.{◌≡◌, ◌<◌, ℕ, arith, length, subst}
use Rattle.std.specs.Prelude.{Err, IfOk, Ok, Result, slice_index, string_bytes}
use Rattle.papergrid_values.specs.declared.direction.Direction.TheVariants.{Columns}
use Rattle.papergrid_text.specs.HeldRows.{column_count}
use Rattle.papergrid_tracks.specs.Sizings.{IsTotal}
use Rattle.papergrid_tracks.specs.declared.sizing.Sizing.TheVariants.{ByShares}
use Rattle.papergrid_tracks.specs.declared.error.LayoutError.{LayoutError}
use Rattle.papergrid_walk.specs.Cells.{problem_of}
use Rattle.papergrid_config.specs.Grids.{spanned_grid}
use Rattle.papergrid_walk.specs.Measures.{line_measure}
use Rattle.papergrid_layout.specs.Places.{IsTotalOf, total}
use Rattle.papergrid_layout.proofs.PlaceLaws.{totals}
use Rattle.papergrid_layout_checks.proofs.tests.size_callers.width_by_estimate.Goals as goal

answered : (r : Result ℕ LayoutError) (t : ℕ) (P : ℕ → Type 0) → ((n : ℕ) → n ≡ t → P n) → IsTotalOf t r → IfOk r P
answered (Ok n) t P f h = f n h
answered (Err e) t P f h = tt

pub total_width-requires : goal.total_width-requires
total_width-requires c =
    let told = c.in-Ok.ensures.ok in
    let many : length c.estimate.new.self.widths ≡ column_count c.args.records = told.2.widths.fits.one_each in
    let same : c.count_columns-columns.result ≡ column_count c.args.records = c.count_columns-columns.ensures in
    λ column below. let small : column < c.count_columns-columns.result = below in omega (arith, many, same, small)

pub returns-in-Ok : goal.returns-in-Ok
returns-in-Ok c =
    let told = c.in-Ok.ensures.ok in
    let grid = spanned_grid c.args.config.now in
    let columns = column_count c.args.records in
    let widths = c.estimate.new.self.widths in
    let summed = subst (λ (k : ℕ). IsTotalOf (total (slice_index widths) (grid.draws Columns k) k) c.total_width.result) c.count_columns-columns.ensures c.total_width.ensures in
    answered c.total_width.result (total (slice_index widths) (grid.draws Columns columns) columns) _
    (λ n e. subst (λ cells. IsTotal ByShares (problem_of grid (line_measure string_bytes) columns cells Columns) n) told.1
    ((totals ByShares grid (line_measure string_bytes) columns told.0 widths c.estimate.new.self.heights told.2 Columns n).1 e)) summed
