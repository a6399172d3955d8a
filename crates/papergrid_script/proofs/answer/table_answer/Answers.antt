use Rattle.std.proofs.Common.{refl}
use Rattle.papergrid_script.specs.Estimates.{OutOfTable}
use Rattle.papergrid_script.proofs.answer.table_answer.Goals as goal

pub returns-in_ok-out_of_table_text-in-Err-OutOfTable : goal.returns-in_ok-out_of_table_text-in-Err-OutOfTable
returns-in_ok-out_of_table_text-in-Err-OutOfTable c =
    let is = rw (c.in-Err-OutOfTable.is, c.in-Err-OutOfTable.field-0-is) at c.table_sizes.ensures in
    (OutOfTable c.in-Err-OutOfTable.position, is, (refl, c.in_ok-out_of_table_text-in-Err-OutOfTable.ensures))
