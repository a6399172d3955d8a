-- The estimate of a table: its sizes, or why there are none. With the sizes along both directions come the totals,
-- which count the lines, and the cells that certify that the sizes are least.
use Rattle.std.specs.Prelude.{ℕ, List}
use Rattle.papergrid_values.specs.declared.per_direction.PerDirection.{PerDirection}
use Rattle.papergrid_values.specs.declared.position.Position.{Position}
use Rattle.papergrid_tracks.specs.declared.error.LayoutError.TheVariants as layout_error
use Rattle.papergrid_maps.specs.Grids.{Grid}
use Rattle.papergrid_walk.specs.Measures.{text_measure}
use Rattle.papergrid_layout.specs.Answers.{IsBothRefused}
use Rattle.papergrid_layout.specs.Certificates.{AreSolutionsBy, Solution}
use Rattle.papergrid_tracks.specs.declared.sizing.Sizing.{Sizing}
use Rattle.papergrid_config.specs.Grids.{IsGridOf}
use Rattle.papergrid_script.specs.Scripts.{Table}

-- out of the table at a position, too large, or what is found along both directions
pub data Estimate : Type 0 where
  OutOfTable : Position → Estimate
  TooLarge : Estimate
  Sized : PerDirection Solution → Estimate

-- the estimate of rows of cells that are measured so, by what is read of settings
abbrev pub IsEstimateBy : {C : Type 0} → Grid → (C → ℕ × ℕ) → ℕ → List (List C) → Sizing → Estimate → Type 0
IsEstimateBy grid measure columns rows sizing (OutOfTable position) = IsBothRefused grid measure columns rows sizing (layout_error.OutOfTable position)
IsEstimateBy grid measure columns rows sizing TooLarge = IsBothRefused grid measure columns rows sizing layout_error.TooLarge
IsEstimateBy grid measure columns rows sizing (Sized found) = AreSolutionsBy grid measure columns rows sizing found

-- that of the table of a script
abbrev pub IsEstimate : Sizing → Table → Estimate → Type 0
IsEstimate sizing table estimate =
    (grid : Grid) × IsGridOf table.settings grid × IsEstimateBy grid text_measure table.columns table.rows sizing estimate
