use Rattle.std.proofs.Common.{◌∙◌, sym, arith}
use Rattle.papergrid_csv.proofs.CutLemmas.{cut-itself, short-itself}
use Rattle.papergrid_csv.proofs.cutting.cut.Goals as goal

pub returns-then-is_printable-clause-cut : goal.returns-then-is_printable-clause-cut
returns-then-is_printable-clause-cut c = short-itself c.args.columns c.args.text.now (sym c.is_printable.ensures ∙ c.if-is_printable.true) (omega arith)

pub returns-then-not-has_wide_line-clause-cut : goal.returns-then-not-has_wide_line-clause-cut
returns-then-not-has_wide_line-clause-cut c = cut-itself c.args.columns c.args.text.now (c.has_wide_line.ensures.0 c.if-not-has_wide_line.true)
