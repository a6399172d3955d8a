use Rattle.std.proofs.Common.{◌∙◌}
use Rattle.papergrid_table.proofs.ValueLemmas.{no_number}
use Rattle.papergrid_table.proofs.values.column_number.Goals as goal

pub returns-in_err-strip_prefix : goal.returns-in_err-strip_prefix
returns-in_err-strip_prefix c = c.from_residual.ensures ∙ no_number c.args.column.now c.in_err-strip_prefix.ensures.cases
