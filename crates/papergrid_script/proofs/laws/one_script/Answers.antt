use Rattle.std.proofs.Common.{◌∙◌, refl, sym}
use Rattle.papergrid_script.specs.ForProofs.Read.{table_of}
use Rattle.papergrid_script.proofs.ScriptLemmas.{script-only, script-read}
use Rattle.papergrid_script.proofs.laws.one_script.Goals as goal

pub returns : goal.returns
returns c = record {
  some = λ input. (table_of input, script-read input (table_of input) refl);
  only = λ input script other is also. script-only input script is ∙ sym (script-only input other also);
}
