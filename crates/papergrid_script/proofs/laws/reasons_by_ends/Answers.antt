use Rattle.std.proofs.Common.{arith}
use Rattle.papergrid_script.proofs.ReasonLemmas.{bad_line_where_bad, none_where_done, refusal_where_refused, written_as}
use Rattle.papergrid_script.proofs.laws.reasons_by_ends.Goals as goal

pub returns : goal.returns
returns c = grind (arith, none_where_done, bad_line_where_bad, refusal_where_refused, written_as)
