use Rattle.std.proofs.Common.{◌∙◌, sym}
use Rattle.papergrid_script.specs.ForProofs.Read.{script_lines}
use Rattle.papergrid_script.proofs.ScriptLineLemmas.{lines_are, lines_only}
use Rattle.papergrid_script.proofs.laws.one_list_of_lines.Goals as goal

pub returns : goal.returns
returns c = record {
  some = λ input. (script_lines input, lines_are input);
  only = λ input lines other are also. lines_only input lines are ∙ sym (lines_only input other also);
}
