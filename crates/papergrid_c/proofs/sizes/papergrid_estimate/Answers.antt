use Rattle.std.proofs.Common.{w32}
use Rattle.std.proofs.lemmas.Int.{to_z-of_z}
use Rattle.papergrid_c.proofs.sizes.papergrid_estimate.Goals as goal

-- the table that was taken out answered, and is put back
pub returns-in-Some : goal.returns-in-Some
returns-in-Some c =
    let told = rw (c.sizing_of.ensures, c.deref_mut.ensures.value) at c.estimate-answer.ensures in
    rw (c.in-Some.ensures.builder, to_z-of_z w32 c.estimate-answer.result (record { sfits = c.estimate-answer.type_inv }))
    (c.estimate-answer.new.builder, c.of.ensures, told)
