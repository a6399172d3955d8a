use Rattle.std.proofs.Common.{◌≡◌, ◌++◌, drop}
use Rattle.papergrid_script.specs.Outputs.{spaced_positions}
use Rattle.papergrid_script.proofs.output.push_positions.Given as goal

abbrev pub invariant-loop-position : goal.invariant-loop-position
invariant-loop-position l = l.text.items ++ spaced_positions (drop l.position-index l.positions) ≡ l.fn.text.items ++ spaced_positions l.positions
