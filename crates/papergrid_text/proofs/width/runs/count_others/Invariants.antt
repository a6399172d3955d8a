use Rattle.std.proofs.Common.{◌≡◌, ◌+◌, drop}
use Rattle.std.specs.Int.{is_in_range}
use Rattle.std.specs.List.{position_or_len}
use Rattle.papergrid_text.proofs.width.runs.count_others.Given as goal

abbrev pub invariant-loop-b : goal.invariant-loop-b
invariant-loop-b l = record {
  counted : l.count ≡ l.b-index;
  rest : l.count + position_or_len (is_in_range 0x20 0x7E) (drop l.count l.bytes) ≡ position_or_len (is_in_range 0x20 0x7E) l.bytes;
}
