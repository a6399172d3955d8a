use Rattle.std.proofs.Common.{subst}
use Rattle.std.proofs.lemmas.Result.{err_from_is_err_and}
use Rattle.papergrid_builder.specs.Pictures.{IsDrawingOf, IsNotDrawn}
use Rattle.papergrid_builder.specs.BuilderStates.{BuilderState}
use Rattle.papergrid_builder.specs.ForProofs.Texts.{rows_told}
use Rattle.papergrid_builder.proofs.builder.Builder.draw.Goals as goal

pub returns-in_err-self-inside-clause-fault : goal.returns-in_err-self-inside-clause-fault
returns-in_err-self-inside-clause-fault c =
    let p = err_from_is_err_and c.from_residual.result c.from_residual.ensures.1 in
    let told = subst (λ starts. IsNotDrawn c.self.inside.settings.items (rows_told c.self.inside.cells starts) c.args.sizing c.in_err-self-inside.field-0.0) c.deref.ensures.value
    c.in_err-self-inside.ensures.err in
    rw (p.1, p.2) (subst (λ (t : BuilderState). IsNotDrawn t.settings t.rows c.args.sizing c.in_err-self-inside.field-0.0) c.self.view_is told)

pub returns-clause-ok : goal.returns-clause-ok
returns-clause-ok c =
    let drawn = c.in_ok-self-inside.ensures.ok in
    let told = subst (λ starts. IsDrawingOf c.self.inside.settings.items (rows_told c.self.inside.cells starts) c.args.sizing drawn.0) c.deref.ensures.value drawn.1 in (
      drawn.0,
      subst (λ (t : BuilderState). IsDrawingOf t.settings t.rows c.args.sizing drawn.0) c.self.view_is told,
      λ i. record {
        settings = (c.self.view_is i).settings;
        rows = (c.self.view_is i).rows;
        goes_on = (c.self.view_is i).goes_on;
        found = (c.self.view_is i).found;
        picture = drawn.2 i;
      },
    )
