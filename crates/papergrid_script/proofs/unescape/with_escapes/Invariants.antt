use Rattle.std.proofs.Common.{◌++◌, ◌∷◌, length, option_map, string_bytes}
use Rattle.std.specs.Prelude.{IsUtf8}
use Rattle.papergrid_script.specs.Texts.{backslash, unescaped}
use Rattle.papergrid_script.proofs.EscapeLemmas.{IsSoFar}
use Rattle.papergrid_script.proofs.unescape.with_escapes.Given as goal

abbrev pub invariant-loop-meant : goal.invariant-loop-meant
invariant-loop-meant l = record {
  text : IsUtf8 l.after;
  meant : IsSoFar (option_map (λ more. l.plain ++ more) (unescaped (backslash ∷ l.escape))) (string_bytes l.text) (backslash ∷ l.after);
}

abbrev pub decreases-loop-meant : goal.decreases-loop-meant
decreases-loop-meant l = length l.after
