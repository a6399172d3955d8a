use Rattle.papergrid_maps.proofs.StoredAgree.{spans_agree}
use Rattle.papergrid_maps.proofs.laws.equal_spans.Goals as goal

pub returns-clause-tables : goal.returns-clause-tables
returns-clause-tables c = spans_agree
