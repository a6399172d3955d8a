-- What clauses see of the values that the program holds.
use Rattle.std.specs.Prelude.{Result, Ok, Err}
use Rattle.papergrid_values.specs.declared.per_direction.PerDirection.{PerDirection}
use Rattle.papergrid_tracks.specs.declared.error.LayoutError.{LayoutError}
use Rattle.papergrid_tracks.specs.declared.error.LayoutError.TheVariants as layout_errors
use Rattle.papergrid_tracks.specs.declared.solution.Solved.{Solved}
use Rattle.papergrid_layout.specs.Certificates.{solutions_of}
use Rattle.papergrid_script.specs.Estimates.{Estimate, OutOfTable, TooLarge, Sized}

-- what is estimated is so; out of memory says nothing
abbrev pub GivesEstimate : Result (PerDirection Solved) LayoutError → (Estimate → Type 0) → Type 0
GivesEstimate (Ok found) IsSo = IsSo (Sized (solutions_of found))
GivesEstimate (Err (layout_errors.OutOfTable position)) IsSo = IsSo (OutOfTable position)
GivesEstimate (Err layout_errors.TooLarge) IsSo = IsSo TooLarge
GivesEstimate (Err (layout_errors.Memory e)) IsSo = Unit {0}
