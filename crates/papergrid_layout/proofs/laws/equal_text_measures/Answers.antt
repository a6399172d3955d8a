use Rattle.papergrid_layout.specs.Laws.{IsNewText}
use Rattle.papergrid_layout.proofs.LawLemmas.{new_text_measures, same_measures}
use Rattle.papergrid_layout.proofs.laws.equal_text_measures.Goals as goal

pub returns : goal.returns
returns g c = λ rows all direction grid. same_measures direction grid _ _ (IsNewText g.S.AsStr.text) (new_text_measures g.S.AsStr.text) rows all
