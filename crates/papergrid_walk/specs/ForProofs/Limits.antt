-- How far a walk knows the table that it walks over.
use Rattle.std.specs.Prelude.{ℕ, ◌-◌, ◌^◌}
use Rattle.papergrid_values.specs.declared.direction.Direction.{Direction}
use Rattle.papergrid_values.specs.declared.direction.Direction.TheVariants.{Columns, Rows}

-- below which track a visible cell that covers one alone is in the table for certain: each row is one of the table
abbrev pub limit_along : Direction → ℕ → ℕ
limit_along Columns columns = columns
limit_along Rows columns = 2 ^ 64 - 1
