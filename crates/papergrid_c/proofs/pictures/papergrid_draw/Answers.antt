use Rattle.std.proofs.Common.{w32}
use Rattle.std.proofs.lemmas.Int.{to_z-of_z}
use Rattle.papergrid_c.proofs.pictures.papergrid_draw.Goals as goal

-- the table that was taken out answered, and is put back
pub returns-in-Some : goal.returns-in-Some
returns-in-Some c =
    let told = rw (c.sizing_of.ensures, c.deref_mut.ensures.value) at c.draw-answer.ensures in
    rw (c.in-Some.ensures.builder, to_z-of_z w32 c.draw-answer.result (record { sfits = c.draw-answer.type_inv }))
    (c.draw-answer.new.builder, c.of.ensures, told)
