use Rattle.std.proofs.Common.{◌≡◌, arith, false}
use Rattle.std.proofs.lemmas.Bool.Decides.{nat_tests}
use Rattle.papergrid_csv.specs.Spelling.{is_escaped}
use Rattle.papergrid_csv.proofs.EscapeLemmas.{on-both}
use Rattle.papergrid_csv.proofs.spelling.push_escaped.Goals as goal

pub returns-in_ok-push_spelled-in_default : goal.returns-in_ok-push_spelled-in_default
returns-in_ok-push_spelled-in_default c =
    let none : is_escaped c.args.c ≡ false = grind (arith, nat_tests) in
    on-both c.push_spelled-in_default-2.result c.args.reading c.args.c _ _ _ none c.in_ok-push_spelled-in_default.ensures c.push_spelled-in_default-2.ensures
