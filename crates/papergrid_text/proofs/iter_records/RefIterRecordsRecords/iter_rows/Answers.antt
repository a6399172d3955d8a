use Rattle.std.proofs.Common.{refl}
use Rattle.papergrid_text.proofs.iter_records.RefIterRecordsRecords.iter_rows.Goals as goal

pub returns-clause-told : goal.returns-clause-told
returns-clause-told g c = λ cells gave. (_, refl, c.iter_rows.ensures.told cells gave)
