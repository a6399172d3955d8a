use Rattle.std.proofs.Common.{◌∙◌, sym}
use Rattle.papergrid_script.proofs.Estimated.{estimate_of}
use Rattle.papergrid_script.proofs.LawLemmas.{estimate-computed, least_too_large, only-estimate}
use Rattle.papergrid_script.proofs.laws.one_estimate.Goals as goal

pub returns : goal.returns
returns c = record {
  some = λ sizing table. (estimate_of sizing table, estimate-computed table sizing);
  only = λ sizing table e other is also. only-estimate table sizing e is ∙ sym (only-estimate table sizing other also);
  least_too_large = least_too_large;
}
