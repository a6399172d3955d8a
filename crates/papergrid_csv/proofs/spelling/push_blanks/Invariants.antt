use Rattle.std.proofs.Common.{◌≡◌, ◌++◌, ◌≤◌, replicate}
use Rattle.std.specs.Prelude.{string_bytes}
use Rattle.papergrid_csv.proofs.spelling.push_blanks.Given as goal

abbrev pub invariant-loop : goal.invariant-loop
invariant-loop l = (l.counter ≤ l.blanks) × (string_bytes l.text ≡ string_bytes l.initial.text ++ replicate l.counter 32)
