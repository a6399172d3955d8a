use Rattle.std.proofs.Common.{refl}
use Rattle.papergrid_layout.specs.Laws.{IsNewText}
use Rattle.papergrid_layout.proofs.LawLemmas.{new_text_measures, same_measures}
use Rattle.papergrid_layout.proofs.Told.{demands_told}
use Rattle.papergrid_layout.proofs.laws.lent_cells.Goals as goal

pub returns-clause-lent : goal.returns-clause-lent
returns-clause-lent g c = λ lend measure rows direction grid. demands_told grid lend measure rows _ refl direction

pub returns-clause-texts : goal.returns-clause-texts
returns-clause-texts g c = λ rows all direction grid.
    same_measures direction grid _ _ (λ t. IsNewText g.S.AsStr.text t.now) (λ t. new_text_measures g.S.AsStr.text t.now) rows all
