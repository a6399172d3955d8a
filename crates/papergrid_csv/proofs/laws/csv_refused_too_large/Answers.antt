use Rattle.papergrid_csv.proofs.RefusalLemmas.{refused-large}
use Rattle.papergrid_csv.proofs.laws.csv_refused_too_large.Goals as goal

pub returns : goal.returns
returns c = refused-large
