use Rattle.papergrid_csv.proofs.EqualLemmas.{same-reading}
use Rattle.papergrid_csv.proofs.laws.equal_where_same.Goals as goal

pub returns-clause-reading : goal.returns-clause-reading
returns-clause-reading c = same-reading
