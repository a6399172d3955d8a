use Rattle.papergrid_text.proofs.Walks.{owned_short, owned_rows}
use Rattle.papergrid_text.proofs.records.VecVecIntoRecords.iter_rows.Goals as goal

pub returns-clause-finite : goal.returns-clause-finite
returns-clause-finite g c = λ _ it made. owned_short _ (λ row. λ cells made_cells. owned_short _ (λ cell. tt) cells made_cells.2) it made.2

pub returns-clause-told : goal.returns-clause-told
returns-clause-told g c = λ cells gave. owned_rows _ cells gave (λ v it made. (made.0, made.1)) (λ v it made. (made.0, made.1))
