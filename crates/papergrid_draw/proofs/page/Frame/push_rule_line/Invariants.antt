use Rattle.std.proofs.Common.{◌≡◌, ◌<◌, ◌++◌, cond, length, true}
use Rattle.std.specs.Prelude.{None, nat_lt, option_copied, string_bytes}
use Rattle.std.specs.List.{flat_map, range_with_len}
use Rattle.papergrid_draw.specs.Drawn.{column_stretch, crossing_stretch, draws_horizontal}
use Rattle.papergrid_draw.specs.ForProofs.Pages.{AreSlots, Texts, drawing_of, row_start, text_start}
use Rattle.papergrid_draw.specs.ForProofs.Pens.{AddsStretches}
use Rattle.papergrid_draw.proofs.page.Frame.push_rule_line.Given as goal

abbrev pub invariant-loop-col : goal.invariant-loop-col
invariant-loop-col g l =
    (length l.slots ≡ length l.fn.slots)
    × ((texts : Texts) → let d = drawing_of l.self.table.now texts in
    (l.row < d.shape.0 → AreSlots d l.row (λ _. row_start d l.row) l.fn.slots) →
    AddsStretches None (option_copied l.rule.used) (string_bytes l.fn.line) (string_bytes l.line)
    (flat_map (λ c. crossing_stretch d l.row c ++ column_stretch d l.row c) (range_with_len 0 l.col)))
    × ((texts : Texts) → let d = drawing_of l.self.table.now texts in
    l.row < d.shape.0 → draws_horizontal d l.row ≡ true → AreSlots d l.row (λ _. row_start d l.row) l.fn.slots →
    AreSlots d l.row (λ c. cond (nat_lt c l.col) (text_start d l.row) (row_start d l.row)) l.slots)
