use Rattle.std.proofs.Common.{◌≡◌, length}
use Rattle.std.specs.List.{AllZip}
use Rattle.papergrid_text.specs.Records.{Gives}
use Rattle.papergrid_walk.specs.Cells.{positioned_cells}
use Rattle.papergrid_walk.proofs.visitor.walk.Given as goal

abbrev pub invariant-loop-row : goal.invariant-loop-row
invariant-loop-row g l =
    (goal.iterator-loop-row g).can_next l.row-iterator ×
    (goal.iterator-loop-row g).is_finite l.row-iterator ×
    (l.count ≡ length l.yielded) ×
    g.V.Visitor.ready l.visitor l.count 0 ×
    ((cells : _) × AllZip (Gives g.R.Iter.IterColumns.IntoIterator.into_iter_gives g.R.Iter.IterColumns.IntoIter.Iterator.next_gives) l.yielded cells
    × g.V.Visitor.consumed l.initial.visitor l.visitor (positioned_cells cells))
