use Rattle.papergrid_csv.specs.Rows.{held_texts}
use Rattle.papergrid_csv.specs.ForProofs.Read.{IsReadSoFar}
use Rattle.papergrid_csv.proofs.reading.show_each.Given as goal

abbrev pub invariant-loop : goal.invariant-loop
invariant-loop l = IsReadSoFar l.reading l.fn.input (held_texts l.shown) l.reader
