use Rattle.papergrid_json.proofs.RecordLemmas.{finished_document}
use Rattle.papergrid_json.proofs.document.table.Goals as goal

pub returns-in-Ok-finished : goal.returns-in-Ok-finished
returns-in-Ok-finished c =
    let draft = c.in-Ok.ensures in
    let rows = c.in-Ok-rows.ensures in
    finished_document _ draft.0 c.in-Ok.draft rows.0 _ c.in-Ok-finished.document draft.1 rows.1 draft.2 rows.2 c.in-Ok-finished.ensures
