use Rattle.std.proofs.Common.{arith}
use Rattle.std.proofs.lemmas.List.Splits.{length-slice_split}
use Rattle.std.proofs.lemmas.List.Sums.{count_by-le-length}
use Rattle.papergrid_script.proofs.EscapeLemmas.{escape_without_cr}
use Rattle.papergrid_script.proofs.LineLemmas.{table_of-pieces, bad_line, good_line, no_more_lines, text_said}
use Rattle.papergrid_script.proofs.script.script_of_text.Goals as goal

pub overflow_add-number : goal.overflow_add-number
overflow_add-number c = grind (arith, length-slice_split, count_by-le-length)

pub take_line-requires : goal.take_line-requires
take_line-requires c = escape_without_cr c.cut_marked_line-escape.result.0.now _ _ c.without_cr.ensures c.cut_marked_line-escape.ensures.mark

pub returns-then-not-branch : goal.returns-then-not-branch
returns-then-not-branch c = grind (arith, table_of-pieces, bad_line, text_said)

pub returns : goal.returns
returns c = grind (arith, table_of-pieces, no_more_lines)

pub loop-rest-preserved : goal.loop-rest-preserved
loop-rest-preserved c = grind (arith, good_line, text_said)
