use Rattle.papergrid_csv.proofs.SpellingLemmas.{blanks-spelled, same-on_ok}
use Rattle.papergrid_csv.proofs.spelling.push_tab.Goals as goal

pub returns-in-Some : goal.returns-in-Some
returns-in-Some c = same-on_ok c.push_blanks.result _ _ _ _ c.push_blanks.ensures (blanks-spelled c.args.reading.tab c.in-Some.blanks c.args.reading.raw c.in-Some.is)
