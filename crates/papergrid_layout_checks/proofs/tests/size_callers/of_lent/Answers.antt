use Rattle.std.proofs.Common.{map, subst}
use Rattle.std.specs.Prelude.{string_bytes}
use Rattle.papergrid_text.specs.HeldRows.{column_count, rows_held}
use Rattle.papergrid_tracks.proofs.BySizing.{AreSizes}
use Rattle.papergrid_values.specs.declared.direction.Direction.TheVariants.{Columns}
use Rattle.papergrid_config.specs.Grids.{spanned_grid}
use Rattle.papergrid_walk.specs.Measures.{line_measure}
use Rattle.papergrid_layout.proofs.Told.{problem_told}
use Rattle.papergrid_layout_checks.proofs.Sized.{from_sized}
use Rattle.papergrid_layout_checks.proofs.tests.size_callers.of_lent.Goals as goal

pub returns : goal.returns
returns c =
    let grid = spanned_grid c.args.config.now in
    let columns = column_count c.args.records.now in
    from_sized c.width.result _ _ _ (λ cells t sizes s. subst (λ problem. AreSizes problem sizes)
    (problem_told grid (λ cell. cell.now) (line_measure string_bytes) cells (map (λ row. row.items) (rows_held c.args.records.now).items) t Columns columns) s) c.width.ensures
