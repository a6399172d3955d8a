use Rattle.std.proofs.Common.{◌∙◌, sym}
use Rattle.papergrid_script.proofs.Estimated.{outcome_of}
use Rattle.papergrid_script.specs.ForProofs.Read.{table_of}
use Rattle.papergrid_script.proofs.OutcomeLemmas.{outcome-computed, outcome-only}
use Rattle.papergrid_script.proofs.laws.one_outcome.Goals as goal

pub returns : goal.returns
returns c = record {
  some = λ sizing input. (outcome_of sizing (table_of input), outcome-computed sizing input);
  only = λ sizing input outcome other is also. outcome-only sizing input outcome is ∙ sym (outcome-only sizing input other also);
}
