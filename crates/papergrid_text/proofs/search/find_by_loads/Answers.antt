use Rattle.std.proofs.Common.{◌||◌, not, arith}
use Rattle.std.specs.Prelude.{◌==◌}
use Rattle.papergrid_text.proofs.Lanes.{counted_last, counted_past}
use Rattle.papergrid_text.proofs.search.find_by_loads.Goals as goal

pub loop-at-preserved : goal.loop-at-preserved
loop-at-preserved c =
    record {
      within = omega arith;
      rest = counted_past (λ b. not ((b == c.args.one) || (b == c.args.other))) c.args.bytes.now c.loop-at.at 16 _ (omega arith) c.find_in_lanes-run.ensures c.if-run-lt-LANES.false c.loop-at.invariant.rest;
    }

pub returns : goal.returns
returns c = counted_last (λ b. not ((b == c.args.one) || (b == c.args.other))) c.args.bytes.now c.loop-at.at _ 16 _ (omega arith) c.loop-at-test.false c.loop-at.invariant.rest c.find_in_lanes.ensures
