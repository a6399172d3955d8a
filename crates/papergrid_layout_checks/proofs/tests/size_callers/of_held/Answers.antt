use Rattle.std.proofs.Common.{subst}
use Rattle.std.specs.Prelude.{string_bytes}
use Rattle.papergrid_text.specs.HeldRows.{column_count}
use Rattle.papergrid_tracks.proofs.BySizing.{AreSizes}
use Rattle.papergrid_values.specs.declared.direction.Direction.TheVariants.{Columns}
use Rattle.papergrid_config.specs.Grids.{spanned_grid}
use Rattle.papergrid_walk.specs.Measures.{line_measure}
use Rattle.papergrid_walk.specs.Cells.{problem_of}
use Rattle.papergrid_layout_checks.proofs.Sized.{from_sized}
use Rattle.papergrid_layout_checks.proofs.tests.size_callers.of_held.Goals as goal

pub returns : goal.returns
returns c =
    from_sized c.width.result _ _ _ (λ cells t sizes s. subst (λ known. AreSizes (problem_of (spanned_grid c.args.config.now) (line_measure string_bytes) (column_count c.args.records) known Columns) sizes)
    t s) c.width.ensures
