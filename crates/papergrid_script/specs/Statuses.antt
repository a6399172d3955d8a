-- The status that a program ends with.
use Rattle.std.specs.Prelude.{ℕ, Result, Ok, Err}
use Rattle.papergrid_script.specs.declared.answer.RunEnd.{RunEnd}
use Rattle.papergrid_script.specs.declared.answer.RunEnd.TheVariants.{BadScript, Done, Refused}
use Rattle.papergrid_script.specs.declared.reading.RunFault.{RunFault}

-- that of a run: 0 where its table is answered, 1 where that is refused, 2 where the input is bad, and 3 at a fault
abbrev pub run_status : Result RunEnd RunFault → ℕ
run_status (Ok Done) = 0
run_status (Ok Refused) = 1
run_status (Ok BadScript) = 2
run_status (Err fault) = 3
