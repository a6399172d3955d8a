use Rattle.std.proofs.Common.{◌≡◌, ◌+◌, ◌++◌, cond}
use Rattle.std.specs.Prelude.{nat_lt, string_bytes}
use Rattle.std.specs.List.{flat_map, range_with_len}
use Rattle.papergrid_draw.specs.Bytes.{pieces_bytes}
use Rattle.papergrid_draw.specs.Drawn.{column_pieces}
use Rattle.papergrid_draw.specs.ForProofs.Pages.{AreSlots, Texts, drawing_of, text_start}
use Rattle.papergrid_draw.proofs.page.Frame.push_text_line.Given as goal

abbrev pub invariant-loop-col : goal.invariant-loop-col
invariant-loop-col g l =
    (texts : Texts) → let d = drawing_of l.self.table.now texts in
    AreSlots d l.row (λ _. text_start d l.row + l.k) l.fn.slots →
    (string_bytes l.line ≡ string_bytes l.fn.line ++ pieces_bytes (flat_map (column_pieces d l.row l.k) (range_with_len 0 l.col)))
    × AreSlots d l.row (λ c. cond (nat_lt c l.col) (text_start d l.row + (l.k + 1)) (text_start d l.row + l.k)) l.slots
