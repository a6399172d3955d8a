use Rattle.std.proofs.Common.{◌++◌}
use Rattle.std.specs.Prelude.{None, option_copied, string_bytes}
use Rattle.std.specs.List.{flat_map, range_with_len}
use Rattle.papergrid_draw.specs.Drawn.{column_stretch, crossing_stretch}
use Rattle.papergrid_draw.specs.ForProofs.Pages.{Texts, drawing_of}
use Rattle.papergrid_draw.specs.ForProofs.Pens.{AddsStretches}
use Rattle.papergrid_draw.proofs.plain.push_own_rule.Given as goal

abbrev pub invariant-loop-col : goal.invariant-loop-col
invariant-loop-col l = (texts : Texts) →
    AddsStretches None (option_copied l.rule.used) (string_bytes l.fn.line) (string_bytes l.line)
    (flat_map (λ c. crossing_stretch (drawing_of l.frame.table.now texts) l.row c ++ column_stretch (drawing_of l.frame.table.now texts) l.row c)
    (range_with_len 0 l.col))
