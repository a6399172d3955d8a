use Rattle.std.proofs.Common.{◌≡◌, ◌+◌, ◌||◌, drop}
use Rattle.std.specs.Prelude.{◌==◌}
use Rattle.std.specs.List.{position_or_len}
use Rattle.papergrid_text.proofs.search.find_one_by_one.Given as goal

abbrev pub invariant-loop-b : goal.invariant-loop-b
invariant-loop-b l = record {
  counted : l.at ≡ l.b-index;
  rest : l.at + position_or_len (λ b. (b == l.one) || (b == l.other)) (drop l.at l.bytes) ≡ position_or_len (λ b. (b == l.one) || (b == l.other)) l.bytes;
}
