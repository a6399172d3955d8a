use Rattle.std.proofs.Common.{ap, map, refl, subst, sym}
use Rattle.std.specs.List.{AllZip}
use Rattle.papergrid_csv.specs.Cutting.{IsCut}
use Rattle.papergrid_csv.specs.Rows.{row_texts, held_texts}
use Rattle.papergrid_csv.specs.Shown.{AreCut}
use Rattle.papergrid_csv.proofs.CertifyLemmas.{kept-none, rows-found}
use Rattle.papergrid_csv.proofs.certified.certify_rows.Goals as goal

pub returns-in-Some : goal.returns-in-Some
returns-in-Some c = kept-none c.args.request.now c.args.rows.now.columns (held_texts c.args.rows.now.rows) _ c.in-Some.ensures

pub returns-in-None : goal.returns-in-None
returns-in-None c =
    let rows = held_texts c.args.rows.now.rows in
    rows-found c.args.request.now c.args.rows.now.columns rows c.in_default.ensures c.args.rows.now.rows (subst (λ cut. AreCut cut rows rows) (sym c.in-None.is) refl)
    c.deref.result.now c.deref.ensures.value c.certify_shown.result c.certify_shown.ensures

pub returns-in_ok-shown-in-Some-cut : goal.returns-in_ok-shown-in-Some-cut
returns-in_ok-shown-in-Some-cut c =
    let rows = held_texts c.args.rows.now.rows in
    let shown = c.in_ok-shown-in-Some-cut.shown in
    rows-found c.args.request.now c.args.rows.now.columns rows c.in_default.ensures shown
    (subst (λ cut. AreCut cut rows (held_texts shown)) (sym c.in-Some-cut.is)
    (subst (λ held. AllZip (AllZip (IsCut c.in-Some-cut.columns)) held (held_texts shown)) (ap (map row_texts) c.deref-in-Some-cut.ensures.value) c.in_ok-shown-in-Some-cut.ensures))
    c.deref-in-Some-cut-2.result.now c.deref-in-Some-cut-2.ensures.value c.certify_shown-in-Some-cut.result c.certify_shown-in-Some-cut.ensures
