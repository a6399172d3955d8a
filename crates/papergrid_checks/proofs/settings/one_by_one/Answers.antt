use Rattle.std.proofs.Common.{◌∙◌, ap, []}
use Rattle.papergrid_maps.proofs.StoredMapLemmas.{stored_effective}
use Rattle.papergrid_checks.proofs.settings.one_by_one.Goals as goal

pub returns : goal.returns
returns c = λ position.
    let one = c.set_borders.ensures.told [] c.new-config.ensures in
    let two = c.in_ok-set_column_span.ensures.ok _ one in
    let three = c.in_ok-set_padding.ensures.ok _ two in
    ap (λ sides. sides.left.size) (stored_effective _ _ _ three.padding position) ∙ c.blanks.ensures
