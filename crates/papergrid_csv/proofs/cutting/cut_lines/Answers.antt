use Rattle.std.proofs.Common.{false, subst, sym}
use Rattle.std.specs.Prelude.{List, ℕ, string_bytes}
use Rattle.std.proofs.lemmas.List.{map_push}
use Rattle.papergrid_csv.proofs.CutLemmas.{AreCut, cut-more}
use Rattle.papergrid_csv.proofs.cutting.cut_lines.Goals as goal

pub loop-line-preserved : goal.loop-line-preserved
loop-line-preserved c =
    subst (λ (lines : List (List ℕ)). AreCut c.args.columns lines false (string_bytes c.push_line.new.shown)) (sym (map_push (λ line. line.now) c.loop-line.yielded c.in-Some.line))
    (cut-more c.args.columns _ c.in-Some.line.now c.loop-line.begins _ _ c.loop-line.invariant c.in_ok-push_line.ensures)
