use Rattle.std.proofs.Common.{ap, arith, length}
use Rattle.std.specs.Slice.Iter.{iter_rest}
use Rattle.papergrid_text.proofs.Walks.{lent_short, lent_rows}
use Rattle.papergrid_text.proofs.laws.vectors_tell_rows.Goals as goal

pub returns-clause-lawful : goal.returns-clause-lawful
returns-clause-lawful g c = λ iter small it made.
    let same = ap (λ s. length (iter_rest s)) made in
    lent_short _ (λ row cells made_cells. lent_short _ (λ cell. tt) cells made_cells.1) it (omega arith)

pub returns-clause-told : goal.returns-clause-told
returns-clause-told g c = λ iter cells gave. lent_rows _ cells gave (λ s. iter_rest s) (λ w it made. ap (λ s. iter_rest s) made) (λ row it made. made.0)
