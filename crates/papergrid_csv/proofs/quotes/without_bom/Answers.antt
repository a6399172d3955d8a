use Rattle.papergrid_csv.proofs.QuoteLemmas.{after-mark, without-mark}
use Rattle.papergrid_csv.proofs.quotes.without_bom.Goals as goal

pub returns-in-Some : goal.returns-in-Some
returns-in-Some c = after-mark c.args.input.now c.in-Some.rest.now c.in-Some.ensures.cases.0 c.in-Some.ensures.cases.1

pub returns-in-None : goal.returns-in-None
returns-in-None c = without-mark c.args.input.now c.in-None.ensures.cases
