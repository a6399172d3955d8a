use Rattle.std.specs.Str.Iter.{chars_rest}
use Rattle.papergrid_csv.proofs.CutLemmas.{IsSoFar}
use Rattle.papergrid_csv.proofs.cutting.kept_past_printable.Given as goal

abbrev pub invariant-loop-c : goal.invariant-loop-c
invariant-loop-c l = IsSoFar l.columns l.line l.segment (chars_rest l.c-iterator) l.taken l.before l.end
