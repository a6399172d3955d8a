use Rattle.papergrid_json.proofs.RecordLemmas.{read_in_range}
use Rattle.papergrid_json.proofs.document.read_document.Goals as goal

pub returns-clause-in_range : goal.returns-clause-in_range
returns-clause-in_range c = read_in_range _ c.table.result c.table.ensures
