-- The numbers that calls answer; papergrid.h has their names for C.
use Rattle.std.specs.Prelude.{ℤ, pos}
use Rattle.papergrid_builder.specs.declared.error.BuilderError.{BuilderError}
use Rattle.papergrid_builder.specs.declared.error.BuilderError.TheVariants.{BadSetting, Hidden, Memory, NotAscii, NotEstimated, NotText, NotTiled, OutOfRange, OutOfTable, TooLarge}

-- it is done
abbrev pub done : ℤ
done = pos 0

-- the handle has no table
abbrev pub no_table : ℤ
no_table = pos 2

-- what is told does not fit into what the caller lends
abbrev pub no_room : ℤ
no_room = pos 11

-- a value is none of those that the call knows
abbrev pub bad_value : ℤ
bad_value = pos 12

-- no cell stands over the point
abbrev pub no_cell : ℤ
no_cell = pos 13

-- no cells certify the sizes
abbrev pub no_certificate : ℤ
no_certificate = pos 14

-- why a table refuses a call
abbrev pub number_of : BuilderError → ℤ
number_of Memory = pos 1
number_of NotText = pos 3
number_of BadSetting = pos 4
number_of OutOfRange = pos 5
number_of (OutOfTable p) = pos 6
number_of (NotTiled p) = pos 7
number_of TooLarge = pos 8
number_of NotEstimated = pos 9
number_of Hidden = pos 10
number_of NotAscii = bad_value
