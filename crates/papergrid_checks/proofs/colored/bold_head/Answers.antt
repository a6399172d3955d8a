use Rattle.std.proofs.Common.{◌∙◌, [], ap}
use Rattle.std.specs.Prelude.{None, Some}
use Rattle.papergrid_maps.proofs.StoredMapLemmas.{stored_effective}
use Rattle.papergrid_checks.proofs.colored.bold_head.Goals as goal

pub returns : goal.returns
returns c = λ col.
    let one = c.in_ok-insert.ensures.ok None [] c.new-colors.ensures in
    stored_effective _ _ _ one (record { row = 0; col = col }) ∙ ap Some c.in_ok-bold.ensures
