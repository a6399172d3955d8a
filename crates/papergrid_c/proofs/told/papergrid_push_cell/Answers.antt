use Rattle.std.proofs.Common.{w32}
use Rattle.std.proofs.lemmas.Int.{to_z-of_z}
use Rattle.papergrid_builder.specs.Calls.{GainsCell, IsNoCell}
use Rattle.papergrid_c.proofs.CallLemmas.{ended}
use Rattle.papergrid_c.proofs.told.papergrid_push_cell.Goals as goal

-- the table that was taken out answered, and is put back
pub returns-in-Some : goal.returns-in-Some
returns-in-Some c =
    let told = c.push_cell-answer.ensures in
    let pushed = ended (GainsCell c.args.text.now c.deref_mut.result.now) (IsNoCell c.args.text.now) c.deref_mut.result.now c.push_cell-answer.new.self c.number.result c.push_cell-answer.result
    told.ok told.refused told.err c.number.ensures in
    rw (c.in-Some.ensures.builder, to_z-of_z w32 c.number.result (record { sfits = c.number.type_inv }))
    (c.push_cell-answer.new.self, c.of.ensures, rw c.deref_mut.ensures.value at pushed)
