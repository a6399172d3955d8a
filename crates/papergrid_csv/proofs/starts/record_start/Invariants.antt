use Rattle.std.proofs.Common.{◌≤◌, length}
use Rattle.papergrid_csv.proofs.StartLemmas.{IsLeft}
use Rattle.papergrid_csv.proofs.starts.record_start.Given as goal

abbrev pub invariant-loop : goal.invariant-loop
invariant-loop l = (length l.rest ≤ length l.input) × IsLeft l.reading l.input l.counter l.rest
