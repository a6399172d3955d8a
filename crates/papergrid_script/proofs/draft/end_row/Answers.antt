use Rattle.std.proofs.Common.{arith}
use Rattle.papergrid_script.proofs.DraftLemmas.{placed}
use Rattle.papergrid_script.proofs.draft.end_row.Goals as goal

pub returns-in_ok-row-in-Some : goal.returns-in_ok-row-in-Some
returns-in_ok-row-in-Some c = grind (arith, placed)
