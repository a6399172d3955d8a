-- Rows of texts, as a caller holds them, and the table that they are measured as.
use Rattle.std.specs.Prelude.{ℕ, List, Vec, length, map}
use Rattle.std.specs.Borrow.{Bor}
use Rattle.std.specs.declared.alloc.Global.{Global}
use Rattle.papergrid_values.specs.declared.direction.Direction.{Direction}
use Rattle.papergrid_tracks.specs.Problem.{Problem}
use Rattle.papergrid_config.specs.declared.spanned.SpannedConfig.{SpannedConfig}
use Rattle.papergrid_text.specs.LineCache.{answered_lines}
use Rattle.papergrid_text.specs.Measured.{Measured}
use Rattle.papergrid_walk.specs.Cells.{problem_of}
use Rattle.papergrid_config.specs.Grids.{spanned_grid}
use Rattle.papergrid_walk.specs.Measures.{line_measure}

-- the cells of rows that are vectors
abbrev pub cells_of : {A : Type 0} → List (Vec A Global) → List (List A)
cells_of rows = map (λ row. row.items) rows

-- the width and the height of a text, by its lines
abbrev pub lent_measure : Bor (List ℕ) → ℕ × ℕ
lent_measure text = line_measure (λ (t : Bor (List ℕ)). t.now) text

-- what the widths, or the heights, of rows of texts are found for, of so many columns and by a configuration
abbrev pub texts_problem : SpannedConfig → ℕ → List (Vec (Bor (List ℕ)) Global) → Direction → Problem
texts_problem config columns rows direction = problem_of (spanned_grid config) lent_measure columns (cells_of rows) direction

-- the width and the number of lines that a text keeps
abbrev pub kept_measure : Measured (Bor (List ℕ)) → ℕ × ℕ
kept_measure kept = (kept.width, length (answered_lines kept.text.now kept.width kept.lines))
