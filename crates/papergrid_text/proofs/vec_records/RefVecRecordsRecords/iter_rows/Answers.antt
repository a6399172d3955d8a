use Rattle.std.proofs.Common.{ap, ◌∙◌, map}
use Rattle.papergrid_text.proofs.vec_records.RefVecRecordsRecords.iter_rows.Goals as goal

pub returns-clause-told : goal.returns-clause-told
returns-clause-told g c = λ cells gave. c.iter_rows.ensures.told cells gave ∙ ap (map (λ row. row.items)) c.as_slice.ensures.value
