-- The estimate of a table, and what a script comes to, computed.
use Rattle.std.specs.Prelude.{ℕ, ◌^◌, ◌||◌, List, map, Option, Some, None, Result, Ok, Err, nat_le, if◌then◌else◌}
use Rattle.papergrid_values.specs.declared.per_direction.PerDirection.{PerDirection}
use Rattle.papergrid_values.specs.declared.position.Position.{Position}
use Rattle.papergrid_values.specs.declared.direction.Direction.{Direction}
use Rattle.papergrid_values.specs.declared.direction.Direction.TheVariants.{Columns, Rows}
use Rattle.papergrid_tracks.specs.Problem.{Problem, total_of}
use Rattle.papergrid_tracks.specs.Ranges.{position_of}
use Rattle.papergrid_tracks.specs.Sizes.{sizes_of}
use Rattle.papergrid_tracks.proofs.CriticalPathLemmas.{critical_path}
use Rattle.papergrid_tracks.proofs.HighestLemmas.{least_of}
use Rattle.papergrid_walk.specs.Cells.{problem_of}
use Rattle.papergrid_maps.specs.Grids.{Grid}
use Rattle.papergrid_config.proofs.Made.{grid_of}
use Rattle.papergrid_walk.specs.Measures.{text_measure}
use Rattle.papergrid_layout.specs.Answers.{first_out_of_table}
use Rattle.papergrid_layout.specs.Certificates.{Solution}
use Rattle.papergrid_layout.proofs.Told.{certificate_by_shares}
use Rattle.papergrid_tracks.specs.declared.sizing.Sizing.{Sizing}
use Rattle.papergrid_tracks.specs.declared.sizing.Sizing.TheVariants.{ByShares, Least}
use Rattle.papergrid_script.specs.Estimates.{Estimate, OutOfTable, TooLarge, Sized}
use Rattle.papergrid_script.specs.Outputs.{BadLine, Estimated, Outcome}
use Rattle.papergrid_script.specs.Scripts.{Table}

-- what is found, or too large where a total is past the greatest `usize`
abbrev pub unless_large : PerDirection Solution → Estimate
unless_large found = if nat_le (2 ^ 64) found.columns.total || nat_le (2 ^ 64) found.rows.total then TooLarge else Sized found

-- out of the table at a position, where there is one, else what was found
abbrev pub unless_out : Option Position → Estimate → Estimate
unless_out (Some position) sized = OutOfTable position
unless_out None sized = sized

-- what is found along a direction: by shares, or of the least total
abbrev pub solution_by : Sizing → Problem → Solution
solution_by ByShares p = record { sizes = sizes_of p; total = total_of p (sizes_of p); certificate = certificate_by_shares p }
solution_by Least p = record { sizes = least_of p; total = total_of p (least_of p); certificate = Some (map position_of (critical_path p)) }

-- of rows of cells that are measured so, by what is read of settings
unfoldable pub estimate_by : {C : Type 0} → Sizing → Grid → (C → ℕ × ℕ) → ℕ → List (List C) → Estimate
estimate_by sizing grid measure columns rows =
    let along = λ (direction : Direction). solution_by sizing (problem_of grid measure columns rows direction) in
    unless_out (first_out_of_table grid measure columns rows) (unless_large (record { columns = along Columns; rows = along Rows }))

-- of the table that a script describes
abbrev pub estimate_of : Sizing → Table → Estimate
estimate_of sizing table = estimate_by sizing (grid_of table.settings) text_measure table.columns table.rows

-- what a script comes to
abbrev pub outcome_of : Sizing → Result Table ℕ → Outcome
outcome_of sizing (Err number) = BadLine number
outcome_of sizing (Ok table) = Estimated table (estimate_of sizing table)
