use Rattle.std.proofs.Common.{arith}
use Rattle.std.specs.Int.{is_in_range}
use Rattle.papergrid_text.proofs.Lanes.{counted_few, counted_here, counted_last, counted_past}
use Rattle.papergrid_text.proofs.width.printable.count_by_sixteens.Goals as goal

pub returns-then-run-lt16 : goal.returns-then-run-lt16
returns-then-run-lt16 c =
    counted_here (is_in_range 0x20 0x7E) c.args.bytes.now c.loop-count.count 16 _ (omega arith) c.count_in_load-run.ensures c.if-run-lt16.true c.loop-count.invariant.rest

pub loop-count-preserved : goal.loop-count-preserved
loop-count-preserved c =
    record {
      within = omega arith;
      rest = counted_past (is_in_range 0x20 0x7E) c.args.bytes.now c.loop-count.count 16 _ (omega arith) c.count_in_load-run.ensures c.if-run-lt16.false c.loop-count.invariant.rest;
    }

pub overflow_add-result-2 : goal.overflow_add-result-2
overflow_add-result-2 c =
    let few = counted_few (is_in_range 0x20 0x7E) c.args.bytes.now _ 16 _ (omega arith) c.count_in_load.ensures in
    omega (arith, c.well_formed.0.0)

pub returns : goal.returns
returns c = counted_last (is_in_range 0x20 0x7E) c.args.bytes.now c.loop-count.count _ 16 _ (omega arith) c.loop-count-test.false c.loop-count.invariant.rest c.count_in_load.ensures
