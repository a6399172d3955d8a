-- Where clones equal their originals, each part is the one lent.
use Rattle.std.proofs.Common.{◌∷◌, []}
use Rattle.papergrid_values.proofs.CloneLemmas.{lent_part}
use Rattle.papergrid_values.proofs.border.Border+ref+T.cloned.Goals as goal

pub returns-clause-equal : goal.returns-clause-equal
returns-clause-equal g c = λ same i.
    let R = g.T.Clone.is_clone in
    let part_8 = c.cloned_part-8.ensures.clones c.if-is_refused.false in
    let part_7 = c.cloned_part-7.ensures.clones part_8.0 in
    let part_6 = c.cloned_part-6.ensures.clones part_7.0 in
    let part_5 = c.cloned_part-5.ensures.clones part_6.0 in
    let part_4 = c.cloned_part-4.ensures.clones part_5.0 in
    let part_3 = c.cloned_part-3.ensures.clones part_4.0 in
    let part_2 = c.cloned_part-2.ensures.clones part_3.0 in
    let part_1 = c.cloned_part.ensures.clones part_2.0 in
    lent_part R _ _ same part_1.1 i ∷ lent_part R _ _ same part_2.1 i ∷ lent_part R _ _ same part_3.1 i ∷ lent_part R _ _ same part_4.1 i
    ∷ lent_part R _ _ same part_5.1 i ∷ lent_part R _ _ same part_6.1 i ∷ lent_part R _ _ same part_7.1 i ∷ lent_part R _ _ same part_8.1 i ∷ []
