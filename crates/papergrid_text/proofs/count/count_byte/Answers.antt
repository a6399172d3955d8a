use Rattle.std.proofs.Common.{arith}
use Rattle.std.specs.Prelude.{◌==◌}
use Rattle.papergrid_text.proofs.Counts.{count_fits, count_more, count_whole}
use Rattle.papergrid_text.proofs.count.count_byte.Goals as goal

pub overflow_add-count : goal.overflow_add-count
overflow_add-count c =
    let few = count_fits (λ b. b == c.args.byte) c.loop-at.at 32 c.loop-at.count c.count_in_lanes-count.result c.args.bytes.now c.loop-at.invariant.so_far c.count_in_lanes-count.ensures in
    omega (arith, few, c.well_formed)

pub loop-at-preserved : goal.loop-at-preserved
loop-at-preserved c = grind (arith, count_more)

pub returns : goal.returns
returns c = grind (arith, count_whole)
