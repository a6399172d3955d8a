-- A filter of positions.
use Rattle.std.specs.Prelude.{ℕ, ◌+◌, ◌*◌, ◌%◌, ◌^◌, Bool, false, length, slice_index_or}
use Rattle.papergrid_values.specs.declared.position.Position.{Position}
use Rattle.papergrid_walk.specs.declared.position_filter.PositionFilter.{PositionFilter}

-- which of so many marks is that of a position
abbrev pub slot : ℕ → Position → ℕ
slot count p = (p.row * 31 % 2 ^ 64 + p.col) % 2 ^ 64 % count

-- whether the mark of a position is set
abbrev pub passes : PositionFilter → Position → Bool
passes filter p = slice_index_or filter.marks.items (slot (length filter.marks.items) p) false
