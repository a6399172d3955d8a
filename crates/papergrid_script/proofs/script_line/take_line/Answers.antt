use Rattle.std.proofs.Common.{◌≡◌, ◌++◌, ℕ, List, codes, option_map, refl, sym, subst, arith}
use Rattle.papergrid_script.specs.Spelling.{Cell}
use Rattle.papergrid_script.specs.Grammar.{keyword_says, text_says}
use Rattle.papergrid_script.specs.Texts.{unescaped}
use Rattle.papergrid_script.proofs.SpellLemmas.{parted_after}
use Rattle.papergrid_script.proofs.script_line.take_line.Goals as goal

cell_says : (line spelled : List ℕ) → line ≡ codes "cell " ++ spelled → option_map Cell (unescaped spelled) ≡ text_says line
unfolding text_says keyword_says
cell_says line spelled is = subst (λ (l : List ℕ). option_map Cell (unescaped spelled) ≡ text_says l) (sym is) (rw (parted_after 32 (codes "cell") spelled refl) refl)

pub returns-in-Some : goal.returns-in-Some
returns-in-Some c = grind (arith, cell_says)
