use Rattle.std.proofs.Common.{◌≡◌, ◌++◌, ◌≤◌, replicate, string_bytes}
use Rattle.papergrid_text.proofs.string.push_spaces.Given as goal

abbrev pub invariant-spaces : goal.invariant-spaces
invariant-spaces l = (l.counter ≤ l.n) × (string_bytes l.out ≡ string_bytes l.initial.out ++ replicate l.counter 32)
