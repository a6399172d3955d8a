use Rattle.std.proofs.Common.{refl}
use Rattle.papergrid_layout.specs.Certificates.{solutions_of}
use Rattle.papergrid_script.specs.Estimates.{OutOfTable, Sized, TooLarge}
use Rattle.papergrid_script.specs.Outputs.{BadLine, Estimated}
use Rattle.papergrid_script.specs.Seen.{table_seen}
use Rattle.papergrid_script.proofs.answer.certify_script.Goals as goal

pub returns-in-Err-Bad : goal.returns-in-Err-Bad
returns-in-Err-Bad c =
    let is = rw (c.in-Err-Bad.is, c.in-Err-Bad.field-0-is) at c.read_script.ensures.script in
    (BadLine _, is, refl)

pub returns-in-Err-OutOfTable : goal.returns-in-Err-OutOfTable
returns-in-Err-OutOfTable c =
    let is = rw c.in-Ok.is at c.read_script.ensures.script in
    let out = rw (c.in-Err-OutOfTable.is, c.in-Err-OutOfTable.field-0-is) at c.table_sizes.ensures in
    (Estimated (table_seen c.in-Ok.script) (OutOfTable _), (is, out), refl)

pub returns-in-Err-TooLarge : goal.returns-in-Err-TooLarge
returns-in-Err-TooLarge c =
    let is = rw c.in-Ok.is at c.read_script.ensures.script in
    let large = rw (c.in-Err-TooLarge.is, c.in-Err-TooLarge.field-0-is) at c.table_sizes.ensures in
    (Estimated (table_seen c.in-Ok.script) TooLarge, (is, large), refl)

pub returns : goal.returns
returns c =
    let is = rw c.in-Ok.is at c.read_script.ensures.script in
    let sized = rw c.in-Ok-table_sizes.is at c.table_sizes.ensures in
    (Estimated (table_seen c.in-Ok.script) (Sized (solutions_of c.in-Ok-table_sizes.found)), (is, sized), refl)
