use Rattle.std.proofs.Common.{◌≡◌, map}
use Rattle.papergrid_text.specs.declared.line_cache.LineCache.TheVariants.{Ranges}
use Rattle.papergrid_text.specs.LineCache.{AreInside, line_of_range}
use Rattle.papergrid_text.specs.LinesLeft.{lines_left}
use Rattle.papergrid_text.specs.Text.{greatest_width, with_width}
use Rattle.papergrid_text.proofs.Ranges.{IsRest}
use Rattle.papergrid_text.proofs.text.measure_lines.Given as goal

abbrev pub invariant-lines : goal.invariant-lines
invariant-lines l =
    (goal.iterator-lines).can_next l.line-iterator ×
    (goal.iterator-lines).is_finite l.line-iterator ×
    (l.greatest ≡ greatest_width (map (λ line. line.now) l.yielded)) ×
    (map (line_of_range l.text) l.ranges.items ≡ map with_width (map (λ line. line.now) l.yielded)) ×
    AreInside l.text (Ranges l.ranges) ×
    IsRest l.text l.start (lines_left l.line-iterator)
