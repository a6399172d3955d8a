use Rattle.std.proofs.Common.{◌+◌, arith}
use Rattle.papergrid_text.proofs.Places.{no_more_than}
use Rattle.papergrid_script.proofs.MarkLemmas.{Ends, ends_whole, ends_unmarked, ends_further}
use Rattle.papergrid_script.proofs.cut.find_marked_end.Goals as goal

pub returns-then-bytes-stop-clause-end : goal.returns-then-bytes-stop-clause-end
returns-then-bytes-stop-clause-end c = (ends_whole c.args.bytes.now c.args.mark _ c.find_either-stop.ensures c.if-bytes-stop.true).0

pub returns-then-bytes-stop-clause-mark : goal.returns-then-bytes-stop-clause-mark
returns-then-bytes-stop-clause-mark c = (ends_whole c.args.bytes.now c.args.mark _ c.find_either-stop.ensures c.if-bytes-stop.true).1

pub returns-then-bytes-stop-eq10-clause-end : goal.returns-then-bytes-stop-eq10-clause-end
returns-then-bytes-stop-eq10-clause-end c = (ends_unmarked c.args.bytes.now c.args.mark _ c.find_either-stop.ensures c.if-bytes-stop-eq10.true).0

pub returns-then-bytes-stop-eq10-clause-mark : goal.returns-then-bytes-stop-eq10-clause-mark
returns-then-bytes-stop-eq10-clause-mark c = (ends_unmarked c.args.bytes.now c.args.mark _ c.find_either-stop.ensures c.if-bytes-stop-eq10.true).1

further : (c : goal.After-find_byte) → Ends c.args.bytes.now c.args.mark (c.find_either-stop.result + c.find_byte.result) c.find_either-stop.result
further c = ends_further c.args.bytes.now c.args.mark _ _ c.find_either-stop.ensures c.if-bytes-stop.false c.if-bytes-stop-eq10.false c.find_byte.ensures

pub overflow_add-result : goal.overflow_add-result
overflow_add-result c =
    let bound = no_more_than c.args.bytes.now 10 in
    let ends = (further c).0 in
    let short = c.type_inv.bytes in
    omega arith

pub returns-clause-end : goal.returns-clause-end
returns-clause-end c = (further c).0

pub returns-clause-mark : goal.returns-clause-mark
returns-clause-mark c = (further c).1
