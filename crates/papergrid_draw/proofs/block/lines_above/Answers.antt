use Rattle.std.proofs.Common.{◌≤◌, arith, subst, sym}
use Rattle.papergrid_draw.proofs.BlockLemmas.{free_above-le}
use Rattle.papergrid_draw.proofs.block.lines_above.Goals as goal

pub overflow_add-result : goal.overflow_add-result
overflow_add-result c =
    let few : c.free_above.result ≤ c.saturating_sub-free.result = subst (λ n. n ≤ c.saturating_sub-free.result) (sym c.free_above.ensures) (free_above-le c.args.alignment c.saturating_sub-free.result) in
    omega arith
