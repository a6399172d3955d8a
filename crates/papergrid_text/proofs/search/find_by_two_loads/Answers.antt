use Rattle.std.proofs.Common.{◌+◌, ◌||◌, ◌∙◌, not, sym, zero-add, arith}
use Rattle.std.specs.Prelude.{◌==◌}
use Rattle.papergrid_text.proofs.Lanes.{counted_few, counted_here, counted_last, counted_past}
use Rattle.papergrid_text.proofs.search.find_by_two_loads.Goals as goal

pub returns-then-run : goal.returns-then-run
returns-then-run g c =
    sym (zero-add _)
    ∙ counted_here (λ b. not ((b == c.args.one) || (b == c.args.other))) c.args.bytes.now 0 g.row.N _ (omega arith) c.find_in_lanes-run.ensures c.if-run.true (zero-add _)

pub returns : goal.returns
returns g c =
    let bytes = c.args.bytes.now in
    let more = counted_past (λ b. not ((b == c.args.one) || (b == c.args.other))) bytes 0 g.row.N _ (omega arith) c.find_in_lanes-run.ensures c.if-run.false (zero-add _) in
    counted_last (λ b. not ((b == c.args.one) || (b == c.args.other))) bytes (0 + g.row.N) _ g.row.N _ (omega arith) (omega arith) more c.find_in_lanes.ensures

pub overflow_add-result : goal.overflow_add-result
overflow_add-result g c = grind (arith, counted_few)
