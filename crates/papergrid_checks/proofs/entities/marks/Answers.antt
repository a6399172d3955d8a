use Rattle.std.proofs.Common.{[]}
use Rattle.papergrid_maps.proofs.StoredMapLemmas.{stored_effective}
use Rattle.papergrid_checks.proofs.entities.marks.Goals as goal

pub returns-clause-marked : goal.returns-clause-marked
returns-clause-marked c = λ row.
    let one = c.in_ok-insert.ensures.ok 32 [] c.new-marks.ensures in
    stored_effective _ _ _ one (record { row = row; col = 1 })

pub returns-clause-blank : goal.returns-clause-blank
returns-clause-blank c = λ row.
    let one = c.in_ok-insert.ensures.ok 32 [] c.new-marks.ensures in
    stored_effective _ _ _ one (record { row = row; col = 0 })
