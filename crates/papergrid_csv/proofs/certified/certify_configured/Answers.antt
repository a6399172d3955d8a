use Rattle.std.proofs.Common.{ap, map}
use Rattle.papergrid_draw.proofs.PictureLemmas.{refusal-told}
use Rattle.papergrid_csv.specs.Rows.{row_texts}
use Rattle.papergrid_csv.proofs.CertifyLemmas.{tiled-found, unsized-none, untiled-found}
use Rattle.papergrid_csv.proofs.certified.certify_configured.Goals as goal

pub returns-in-Err : goal.returns-in-Err
returns-in-Err c =
    let rows = ap (λ r. r.iter.now) c.new-records.ensures in
    let columns = ap (λ r. r.count_columns) c.new-records.ensures in
    rw (c.unless_refused.ensures, c.from.ensures)
    (unsized-none _ c.args.request.now c.args.columns (map row_texts c.args.rows.now) c.args.config.now c.in-Err.error
    (refusal-told (λ cell. cell.now) (λ text. text.now) (λ row. row.items) c.args.config.now c.args.request.now.sizing columns rows c.in-Err.error c.in-Err.ensures))

pub returns-in-Ok-check_tiles : goal.returns-in-Ok-check_tiles
returns-in-Ok-check_tiles c =
    tiled-found (λ cell. cell.now) (λ text. text.now) (λ row. row.items) c.args.config.now c.args.request.now (ap (λ r. r.count_columns) c.new-records.ensures) (ap (λ r. r.iter.now) c.new-records.ensures)
    c.in-Ok.found c.in-Ok.ensures c.in-Ok-check_tiles.ensures.ok

pub returns-in-Err-check_tiles : goal.returns-in-Err-check_tiles
returns-in-Err-check_tiles c =
    rw c.unless_refused-in-Err-check_tiles.ensures
    (untiled-found (λ cell. cell.now) (λ text. text.now) (λ row. row.items) c.args.config.now c.args.request.now (ap (λ r. r.count_columns) c.new-records.ensures) (ap (λ r. r.iter.now) c.new-records.ensures)
    c.in-Ok.found c.in-Ok.ensures _ c.in-Err-check_tiles.error c.in-Err-check_tiles.ensures.err)
