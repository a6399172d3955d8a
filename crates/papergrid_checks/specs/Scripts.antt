-- What a caller asks of a script's reason.
use Rattle.std.specs.Prelude.{ℕ, Option, None, Some}
use Rattle.papergrid_script.specs.declared.explained.Reason.{Reason}
use Rattle.papergrid_script.specs.declared.explained.Reason.TheVariants.{BadLine, OutOfTable, TooLarge}

-- the number of the bad line that a reason names
abbrev pub bad_number : Option Reason → Option ℕ
bad_number None = None
bad_number (Some (BadLine number)) = Some number
bad_number (Some (OutOfTable position spans shape)) = None
bad_number (Some TooLarge) = None
