use Rattle.papergrid_json.proofs.OneLemmas.{document-or-none, one-document, one-reason}
use Rattle.papergrid_json.proofs.laws.one_document.Goals as goal

pub returns-clause-pictures : goal.returns-clause-pictures
returns-clause-pictures c document sizing =
    one-document document sizing (λ x y one other. (c.equal_configurations.ensures x y).0 (c.equal_by_history.ensures.told document.settings.items x y one other))

pub returns-clause-drawn : goal.returns-clause-drawn
returns-clause-drawn c document sizing =
    document-or-none document sizing (λ x y one other. (c.equal_configurations.ensures x y).0 (c.equal_by_history.ensures.told document.settings.items x y one other))

pub returns-clause-refused : goal.returns-clause-refused
returns-clause-refused c document sizing =
    one-reason document sizing (λ x y one other. (c.equal_configurations.ensures x y).0 (c.equal_by_history.ensures.told document.settings.items x y one other))
