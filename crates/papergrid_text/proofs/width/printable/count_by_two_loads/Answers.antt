use Rattle.std.proofs.Common.{◌+◌, ◌∙◌, refl, sym, zero-add, arith}
use Rattle.std.specs.Int.{is_in_range}
use Rattle.papergrid_text.proofs.Lanes.{counted_few, counted_here, counted_last, counted_past}
use Rattle.papergrid_text.proofs.width.printable.count_by_two_loads.Goals as goal

pub returns-then-run : goal.returns-then-run
returns-then-run g c =
    sym (zero-add _)
    ∙ counted_here (is_in_range 0x20 0x7E) c.args.bytes.now 0 g.row.N _ (omega arith) c.count_in_load-run.ensures c.if-run.true (zero-add _)

pub returns : goal.returns
returns g c =
    let bytes = c.args.bytes.now in
    let more = counted_past (is_in_range 0x20 0x7E) bytes 0 g.row.N _ (omega arith) c.count_in_load-run.ensures c.if-run.false (zero-add _) in
    counted_last (is_in_range 0x20 0x7E) bytes (0 + g.row.N) _ g.row.N _ (omega arith) (omega arith) more c.count_in_load.ensures

pub overflow_add-result : goal.overflow_add-result
overflow_add-result g c = grind (arith, counted_few)

pub returns-then-is_printable_load-2 : goal.returns-then-is_printable_load-2
returns-then-is_printable_load-2 g c =
    let bytes = c.args.bytes.now in
    let more = counted_past (is_in_range 0x20 0x7E) bytes 0 g.row.N g.row.N (omega (arith, c.requires.least)) (c.if-is_printable_load.ensures refl) (omega arith) (zero-add _) in
    grind (arith, counted_last)
