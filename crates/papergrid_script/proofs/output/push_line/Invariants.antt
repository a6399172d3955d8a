use Rattle.std.proofs.Common.{◌≡◌, ◌++◌, drop}
use Rattle.papergrid_script.specs.Outputs.{spaced_numbers}
use Rattle.papergrid_script.proofs.output.push_line.Given as goal

abbrev pub invariant-loop-number : goal.invariant-loop-number
invariant-loop-number l = l.text.items ++ spaced_numbers (drop l.number-index l.numbers)
    ≡ (l.fn.text.items ++ l.word) ++ spaced_numbers l.numbers
