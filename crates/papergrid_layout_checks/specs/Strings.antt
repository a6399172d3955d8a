-- Records that hold strings, and the table that they are measured as.
use Rattle.std.specs.Prelude.{String, map, string_bytes}
use Rattle.std.specs.declared.alloc.Global.{Global}
use Rattle.papergrid_text.specs.HeldRows.{column_count, rows_held}
use Rattle.papergrid_text.specs.declared.vec_records.VecRecords.{VecRecords}
use Rattle.papergrid_values.specs.declared.direction.Direction.TheVariants.{Columns}
use Rattle.papergrid_tracks.specs.Problem.{Problem}
use Rattle.papergrid_config.specs.declared.spanned.SpannedConfig.{SpannedConfig}
use Rattle.papergrid_walk.specs.Cells.{problem_of}
use Rattle.papergrid_config.specs.Grids.{spanned_grid}
use Rattle.papergrid_walk.specs.Measures.{line_measure}

-- what the widths of the columns are found for
abbrev pub columns_problem : SpannedConfig → VecRecords (String Global) → Problem
columns_problem config records = problem_of (spanned_grid config) (line_measure string_bytes) (column_count records) (map (λ row. row.items) (rows_held records).items) Columns
