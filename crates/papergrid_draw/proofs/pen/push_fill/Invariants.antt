use Rattle.std.proofs.Common.{◌≡◌, ◌≤◌, ◌++◌, string_bytes}
use Rattle.papergrid_draw.specs.Pieces.{fill_text}
use Rattle.papergrid_draw.proofs.pen.push_fill.Given as goal

abbrev pub invariant-loop : goal.invariant-loop
invariant-loop l = (l.counter ≤ l.count) × (string_bytes l.line ≡ string_bytes l.initial.line ++ fill_text l.character l.counter)
