use Rattle.papergrid_text.proofs.Walks.{lent_short, lent_rows}
use Rattle.papergrid_text.proofs.records.RefSliceVecIntoRecords.iter_rows.Goals as goal

pub returns-clause-finite : goal.returns-clause-finite
returns-clause-finite g c = λ _ it made. lent_short _ (λ row. λ cells made_cells. lent_short _ (λ cell. tt) cells made_cells.1) it made.1

pub returns-clause-told : goal.returns-clause-told
returns-clause-told g c = λ cells gave. lent_rows _ cells gave (λ w. w.now) (λ w it made. made.0) (λ row it made. made.0)
