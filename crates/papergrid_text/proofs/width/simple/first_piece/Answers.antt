use Rattle.std.proofs.Common.{arith}
use Rattle.papergrid_text.proofs.SimpleLemmas.{piece}
use Rattle.papergrid_text.proofs.width.simple.first_piece.Goals as goal

pub returns : goal.returns
returns c = piece c.args.text.now c.range_from.result.now c.in_ok-columns.columns c.in_ok-columns.count c.count_run-run.result c.in_ok-columns.ensures c.utf8.text c.range_from.ensures.value c.count_run-run.ensures

pub overflow_add-result : goal.overflow_add-result
overflow_add-result c =
    let first = piece c.args.text.now c.range_from.result.now c.in_ok-columns.columns c.in_ok-columns.count c.count_run-run.result c.in_ok-columns.ensures c.utf8.text c.range_from.ensures.value c.count_run-run.ensures in
    omega (arith, first.bound, first.boundary.0, c.well_formed.0.0)

pub overflow_add-result-2 : goal.overflow_add-result-2
overflow_add-result-2 c =
    let first = piece c.args.text.now c.range_from.result.now c.in_ok-columns.columns c.in_ok-columns.count c.count_run-run.result c.in_ok-columns.ensures c.utf8.text c.range_from.ensures.value c.count_run-run.ensures in
    omega (arith, first.bound, first.boundary.0, c.well_formed.0.0)
