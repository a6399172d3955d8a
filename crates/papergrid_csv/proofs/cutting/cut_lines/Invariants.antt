use Rattle.std.proofs.Common.{map}
use Rattle.std.specs.Prelude.{string_bytes}
use Rattle.papergrid_csv.proofs.CutLemmas.{AreCut}
use Rattle.papergrid_csv.proofs.cutting.cut_lines.Given as goal

abbrev pub invariant-loop-line : goal.invariant-loop-line
invariant-loop-line l = AreCut l.columns (map (λ line. line.now) l.yielded) l.begins (string_bytes l.shown)
