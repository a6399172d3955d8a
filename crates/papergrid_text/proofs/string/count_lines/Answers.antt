use Rattle.std.proofs.Common.{arith}
use Rattle.std.specs.Prelude.{◌==◌}
use Rattle.std.proofs.lemmas.Grind.{common_steps}
use Rattle.std.proofs.lemmas.List.Splits.{length-slice_split}
use Rattle.papergrid_text.proofs.string.count_lines.Goals as goal

pub returns-clause-lines : goal.returns-clause-lines
returns-clause-lines c = let e = length-slice_split (λ b. b == 10) c.args.text.now in grind (arith, common_steps, e)
