use Rattle.std.proofs.Common.{◌≡◌, ◌+◌, vec_len, arith}
use Rattle.papergrid_draw.proofs.spanned.first_slots.Goals as goal

pub loop-col-preserved : goal.loop-col-preserved
loop-col-preserved g c =
    let before : vec_len c.loop-col.slots ≡ c.loop-col.col = c.loop-col.invariant in
    let e : vec_len c.push.new.self ≡ c.loop-col.col + 1 = omega (arith, before, c.in_ok-push.ensures.len) in e

pub returns : goal.returns
returns g c =
    let before : vec_len c.loop-col.slots ≡ c.loop-col.col = c.loop-col.invariant in
    omega (arith, before, c.loop-col.slots.ok.0)
