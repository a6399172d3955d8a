use Rattle.std.proofs.Common.{◌≡◌, ◌∙◌, IfErr, IfOk, ap, subst}
use Rattle.papergrid_draw.specs.Drawings.{Drawing}
use Rattle.papergrid_draw.specs.Lined.{lined}
use Rattle.papergrid_builder.specs.Pictures.{IsDrawingOf, IsNotDrawn}
use Rattle.papergrid_builder.specs.ForProofs.Texts.{rows_lent, rows_told, texts_lent}
use Rattle.papergrid_builder.proofs.DrawLemmas.{drawn-told, undrawn-told}
use Rattle.papergrid_builder.proofs.TextLemmas.{starts-lent}
use Rattle.papergrid_builder.proofs.drawn.drawn.Goals as goal

pub rows_of-requires : goal.rows_of-requires
rows_of-requires c = starts-lent c.deref.result.now c.args.cells.now c.args.starts.now (ap texts_lent c.deref.ensures.value ∙ c.in_ok-texts.ensures) c.requires.starts

pub returns-clause-ok : goal.returns-clause-ok
returns-clause-ok c =
    let rows = rows_lent c.deref-2.result.now in
    let lent : rows ≡ rows_told c.args.cells.now c.args.starts.now =
    ap rows_lent c.deref-2.ensures.value ∙ c.in_ok-rows.ensures ∙ ap (λ cells. rows_told cells c.args.starts.now) (ap texts_lent c.deref.ensures.value ∙ c.in_ok-texts.ensures) in
    subst (λ told. IfOk c.drawn_by.result (λ picture. (d : Drawing) × IsDrawingOf c.args.settings.now.items told c.args.sizing d × (picture.items ≡ lined d))) lent
    (drawn-told c.in_ok-config.config rows c.args.sizing c.args.settings.now.items c.in_ok-config.ensures c.drawn_by.result c.drawn_by.ensures.ok)

pub returns-clause-err : goal.returns-clause-err
returns-clause-err c =
    let rows = rows_lent c.deref-2.result.now in
    let lent : rows ≡ rows_told c.args.cells.now c.args.starts.now =
    ap rows_lent c.deref-2.ensures.value ∙ c.in_ok-rows.ensures ∙ ap (λ cells. rows_told cells c.args.starts.now) (ap texts_lent c.deref.ensures.value ∙ c.in_ok-texts.ensures) in
    subst (λ told. IfErr c.drawn_by.result (IsNotDrawn c.args.settings.now.items told c.args.sizing)) lent
    (undrawn-told c.in_ok-config.config rows c.args.sizing c.args.settings.now.items c.in_ok-config.ensures c.drawn_by.result c.drawn_by.ensures.err)
