use Rattle.std.proofs.Common.{map}
use Rattle.std.specs.List.{AllZip}
use Rattle.papergrid_text.specs.Records.{Gives}
use Rattle.papergrid.proofs.holding.held_rows.Given as goal

abbrev pub invariant-loop-row : goal.invariant-loop-row
invariant-loop-row g l =
    (goal.iterator-loop-row g).can_next l.row-iterator ×
    (goal.iterator-loop-row g).is_finite l.row-iterator ×
    AllZip (Gives g.R.Iter.IterColumns.IntoIterator.into_iter_gives g.R.Iter.IterColumns.IntoIter.Iterator.next_gives)
    l.yielded (map (λ row. row.items) l.held.items)
