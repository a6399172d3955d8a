use Rattle.std.proofs.Common.{◌∙◌, ◌≡◌, arith, false, sym}
use Rattle.papergrid_csv.proofs.SpellingLemmas.{stays-same}
use Rattle.papergrid_csv.proofs.spelling.stays.Goals as goal

pub returns-then-not-is_ascii_control : goal.returns-then-not-is_ascii_control
returns-then-not-is_ascii_control c is =
    let not_ascii : c.is_ascii_control.result ≡ false = grind arith in
    let not_other : c.is_other_control.result ≡ false = grind arith in
    stays-same c.args.c (sym c.is_ascii_control.ensures ∙ not_ascii) (sym c.is_other_control.ensures ∙ not_other)
