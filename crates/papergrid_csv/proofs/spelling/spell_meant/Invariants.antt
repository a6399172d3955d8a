use Rattle.std.specs.Prelude.{string_bytes}
use Rattle.papergrid_csv.proofs.EscapeLemmas.{IsSettled}
use Rattle.papergrid_csv.proofs.spelling.spell_meant.Given as goal

abbrev pub invariant-loop-c : goal.invariant-loop-c
invariant-loop-c l = IsSettled l.reading l.yielded l.held (string_bytes l.text)
