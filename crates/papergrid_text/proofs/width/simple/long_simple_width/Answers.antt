use Rattle.std.proofs.Common.{subst}
use Rattle.papergrid_text.specs.ForProofs.Simple.{ReadsQuietly}
use Rattle.papergrid_text.proofs.SimpleLemmas.{cut_run, reads_run}
use Rattle.papergrid_text.proofs.width.simple.long_simple_width.Goals as goal

pub range_from-requires : goal.range_from-requires
range_from-requires c = λ some. cut_run c.args.text.now _ c.utf8.text c.count_printable-run.ensures

pub returns-clause-value : goal.returns-clause-value
returns-clause-value c = reads_run c.args.text.now _ _ c.count_printable-run.ensures (subst (λ bs. ReadsQuietly bs c.in_ok-rest.rest) c.range_from.ensures.value c.in_ok-rest.ensures.value)
