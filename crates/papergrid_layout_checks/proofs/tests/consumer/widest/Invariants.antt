use Rattle.std.proofs.Common.{◌≡◌, map, length}
use Rattle.std.specs.Prelude.{replicate}
use Rattle.std.specs.List.{AllZip, fold}
use Rattle.papergrid_layout_checks.specs.ColumnWidths.{widen}
use Rattle.papergrid_text.specs.Records.{Gives}
use Rattle.papergrid_text.specs.Text.{text_width}
use Rattle.papergrid_layout_checks.proofs.tests.consumer.widest.Given as goal

abbrev pub invariant-cells : goal.invariant-cells
invariant-cells g l =
    (goal.iterator-cells g).can_next l.cell-iterator ×
    (goal.iterator-cells g).is_finite l.cell-iterator ×
    (l.column ≡ length l.yielded) ×
    (l.widths.items ≡ widen l.initial.widths.items (map (λ cell. text_width (g.R.Iter.Cell.AsStr.text cell)) l.yielded))

abbrev pub invariant-rows : goal.invariant-rows
invariant-rows g l =
    (goal.iterator-rows g).can_next l.row-iterator ×
    (goal.iterator-rows g).is_finite l.row-iterator ×
    ((cells : _) × AllZip (Gives g.R.Iter.IterColumns.IntoIterator.into_iter_gives g.R.Iter.IterColumns.IntoIter.Iterator.next_gives) l.yielded cells
    × (l.widths.items ≡ fold widen (replicate l.columns 0) (map (map (λ cell. text_width (g.R.Iter.Cell.AsStr.text cell))) cells)))
