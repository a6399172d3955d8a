-- Offsets by their numbers.
use Rattle.std.specs.Prelude.{◌+◌, ℤ, pos, negsuc}
use Rattle.papergrid_values.specs.declared.offset.Offset.{Offset}
use Rattle.papergrid_values.specs.declared.offset.Offset.TheVariants.{Start, End}

-- from the start for a number of 0 or more; `negsuc n` is the number -(n + 1)
abbrev pub offset_of : ℤ → Offset
offset_of (pos n) = Start n
offset_of (negsuc n) = End (n + 1)
