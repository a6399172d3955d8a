use Rattle.std.proofs.Common.{◌≡◌, ◌≤◌, ◌++◌, drop, length, map, take}
use Rattle.papergrid_c.specs.Asked.{position_for_c}
use Rattle.papergrid_c.proofs.found.tell_positions.Given as goal

-- the positions before this one stand in front of what was lent
abbrev pub invariant-loop-i : goal.invariant-loop-i
invariant-loop-i l = record {
  front : l.cells ≡ map position_for_c (take l.i l.positions) ++ drop l.i l.initial.cells;
  counted : length l.cells ≡ length l.initial.cells;
  fits : length l.positions ≤ length l.cells;
}
