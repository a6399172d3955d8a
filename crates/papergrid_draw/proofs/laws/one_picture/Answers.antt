use Rattle.papergrid_draw.proofs.OneLemmas.{drawn-or-none, one-picture, one-reason}
use Rattle.papergrid_draw.proofs.laws.one_picture.Goals as goal

pub returns-clause-pictures : goal.returns-clause-pictures
returns-clause-pictures c columns texts sizing settings =
    one-picture columns texts sizing settings (λ x y one other. (c.equal_configurations.ensures x y).0 (c.equal_by_history.ensures.told settings x y one other))

pub returns-clause-drawn : goal.returns-clause-drawn
returns-clause-drawn c columns texts sizing settings =
    drawn-or-none columns texts sizing settings (λ x y one other. (c.equal_configurations.ensures x y).0 (c.equal_by_history.ensures.told settings x y one other))

pub returns-clause-refused : goal.returns-clause-refused
returns-clause-refused c columns texts sizing settings =
    one-reason columns texts sizing settings (λ x y one other. (c.equal_configurations.ensures x y).0 (c.equal_by_history.ensures.told settings x y one other))
