-- Whether a border table has a line, as a test of what it holds.
use Rattle.std.specs.Prelude.{ℕ, Bool}
use Rattle.papergrid_values.specs.declared.direction.Direction.{Direction}
use Rattle.papergrid_tables.specs.StoredBorders.{StoredBorders}
use Rattle.papergrid_tables.specs.ForProofs.LineTested.{line_test}

-- true exactly where there is a line i of count along a direction (`HasLine`)
abbrev pub line_along : {T : Type 0} → StoredBorders T → Direction → ℕ → ℕ → Bool
line_along stored direction count i = (line_test stored direction count i).0
