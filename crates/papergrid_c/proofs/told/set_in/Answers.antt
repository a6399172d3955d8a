use Rattle.std.proofs.Common.{w32}
use Rattle.std.proofs.lemmas.Int.{to_z-of_z}
use Rattle.papergrid_builder.specs.Calls.{GainsSetting, IsNotTold}
use Rattle.papergrid_c.proofs.CallLemmas.{ended}
use Rattle.papergrid_c.proofs.told.set_in.Goals as goal

pub returns-in-Some : goal.returns-in-Some
returns-in-Some c =
    let told = c.push_setting.ensures in
    rw (c.in-Some.is, to_z-of_z w32 c.number.result (record { sfits = c.number.type_inv }))
    (ended (λ new. GainsSetting c.args.builder.now new c.in-Some.setting) (IsNotTold c.in-Some.setting) c.args.builder.now c.push_setting.new.self c.number.result c.push_setting.result
    told.ok told.refused told.err c.number.ensures)
