use Rattle.std.proofs.Common.{length, map}
use Rattle.papergrid_csv.specs.Rows.{row_texts}
use Rattle.papergrid_csv.specs.ForProofs.Drawn.{Configured}
use Rattle.papergrid_csv.proofs.CertifyLemmas.{found-also, unfitted-none}
use Rattle.papergrid_csv.proofs.certified.certify_settings.Goals as goal

pub returns-in-Err : goal.returns-in-Err
returns-in-Err c =
    rw c.unless_refused.ensures
    (unfitted-none c.args.request.now c.args.settings.items (length c.args.rows.now, c.args.columns) c.args.columns (map row_texts c.args.rows.now) _ c.in-Err.error c.in-Err.ensures.works c.in-Err.ensures.err)

pub returns-in-Ok : goal.returns-in-Ok
returns-in-Ok c =
    let config = c.in-Ok.config in
    found-also (λ none. (none.0, none.1, Configured config c.in-Ok.ensures.ok none.2)) (λ found so. (config, c.in-Ok.ensures.ok, so)) c.certify_configured.result c.certify_configured.ensures
