use Rattle.papergrid_text.proofs.Walks.{lent_short, owned_short, slice_rows}
use Rattle.papergrid_text.proofs.records.VecRefSliceIntoRecords.iter_rows.Goals as goal

pub returns-clause-finite : goal.returns-clause-finite
returns-clause-finite g c = λ _ it made. owned_short _ (λ row. λ cells made_cells. lent_short _ (λ cell. tt) cells made_cells.1) it made.2

pub returns-clause-told : goal.returns-clause-told
returns-clause-told g c = λ cells gave. slice_rows _ cells gave (λ v it made. (made.0, made.1)) (λ row it made. made.0)
