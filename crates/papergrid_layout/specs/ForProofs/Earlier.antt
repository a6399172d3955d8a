-- The earlier of two positions.
use Rattle.std.specs.Prelude.{◌&&◌, ◌||◌, ◌==◌, nat_lt, if◌then◌else◌, Option, Some, None}
use Rattle.papergrid_values.specs.declared.position.Position.{Position}

-- by row and then by column
abbrev pub earlier_of : Position → Position → Position
earlier_of p q = if nat_lt q.row p.row || (q.row == p.row && nat_lt q.col p.col) then q else p

-- the same, where there are any
abbrev pub earlier : Option Position → Option Position → Option Position
earlier None q = q
earlier (Some p) None = Some p
earlier (Some p) (Some q) = Some (earlier_of p q)
