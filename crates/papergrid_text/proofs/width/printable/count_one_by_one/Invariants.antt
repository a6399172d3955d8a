use Rattle.std.proofs.Common.{◌≡◌, ◌+◌, drop}
use Rattle.std.specs.Int.{is_in_range}
use Rattle.std.specs.List.{prefix_len}
use Rattle.papergrid_text.proofs.width.printable.count_one_by_one.Given as goal

abbrev pub invariant-loop-b : goal.invariant-loop-b
invariant-loop-b l = record {
  counted : l.count ≡ l.b-index;
  rest : l.count + prefix_len (is_in_range 0x20 0x7E) (drop l.count l.bytes) ≡ prefix_len (is_in_range 0x20 0x7E) l.bytes;
}
