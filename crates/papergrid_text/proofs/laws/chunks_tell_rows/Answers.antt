use Rattle.papergrid_text.proofs.Cuts.{chunks_short, chunk_cells}
use Rattle.papergrid_text.proofs.Walks.{lent_short}
use Rattle.papergrid_text.proofs.laws.chunks_tell_rows.Goals as goal

pub returns-clause-lawful : goal.returns-clause-lawful
returns-clause-lawful g c = λ chunks some small it made.
    chunks_short _ (λ row cells made_cells. lent_short _ (λ cell. tt) cells made_cells.1) it (rw made some) (rw made small)

pub returns-clause-told : goal.returns-clause-told
returns-clause-told g c = λ chunks cells some gave. chunk_cells (λ row it made. made.0) chunks cells some gave
