use Rattle.std.proofs.Common.{arith}
use Rattle.std.proofs.lemmas.List.Splits.{length-slice_split}
use Rattle.std.proofs.lemmas.List.Sums.{count_by-le-length}
use Rattle.papergrid_text.proofs.string.dimension_of_lines.Goals as goal

pub overflow_add-count : goal.overflow_add-count
overflow_add-count c = grind (arith, length-slice_split, count_by-le-length)
