use Rattle.std.proofs.Common.{◌≡◌, ◌∙◌, IfErr, IfOk, ap, subst}
use Rattle.papergrid_builder.specs.Layouts.{IsFoundTable, IsNoFoundTable}
use Rattle.papergrid_builder.specs.ForProofs.Kept.{found_of}
use Rattle.papergrid_builder.specs.ForProofs.Texts.{rows_lent, rows_told, texts_lent}
use Rattle.papergrid_builder.proofs.TextLemmas.{starts-lent}
use Rattle.papergrid_builder.proofs.found.found_by.Goals as goal

pub rows_of-requires : goal.rows_of-requires
rows_of-requires c = starts-lent c.deref.result.now c.args.cells.now c.args.starts.now (ap texts_lent c.deref.ensures.value ∙ c.in_ok-texts.ensures) c.requires.starts

pub returns-clause-ok : goal.returns-clause-ok
returns-clause-ok c =
    let lent : rows_lent c.deref-2.result.now ≡ rows_told c.args.cells.now c.args.starts.now =
    ap rows_lent c.deref-2.ensures.value ∙ c.in_ok-rows.ensures ∙ ap (λ cells. rows_told cells c.args.starts.now) (ap texts_lent c.deref.ensures.value ∙ c.in_ok-texts.ensures) in
    subst (λ rows. IfOk c.found_in.result (λ found. IsFoundTable c.args.settings.now.items rows c.args.sizing (found_of found))) lent c.found_in.ensures.ok

pub returns-clause-err : goal.returns-clause-err
returns-clause-err c =
    let lent : rows_lent c.deref-2.result.now ≡ rows_told c.args.cells.now c.args.starts.now =
    ap rows_lent c.deref-2.ensures.value ∙ c.in_ok-rows.ensures ∙ ap (λ cells. rows_told cells c.args.starts.now) (ap texts_lent c.deref.ensures.value ∙ c.in_ok-texts.ensures) in
    subst (λ rows. IfErr c.found_in.result (IsNoFoundTable c.args.settings.now.items rows c.args.sizing)) lent c.found_in.ensures.err
