use Rattle.papergrid_csv.specs.Rows.{held_texts}
use Rattle.papergrid_csv.proofs.CertifyLemmas.{csv-found, unread-found}
use Rattle.papergrid_csv.proofs.certified.certify_csv.Goals as goal

pub returns-in-Ok : goal.returns-in-Ok
returns-in-Ok c =
    csv-found c.args.request.now c.args.input.now c.in-Ok.rows.columns (held_texts c.in-Ok.rows.rows) c.in-Ok.ensures.rows c.certify_rows.result c.certify_rows.ensures

pub returns : goal.returns
returns c = unread-found c.args.request.now c.args.input.now c.in-Err.error c.in-Err.ensures.unread c.unless_unread.result c.unless_unread.ensures
