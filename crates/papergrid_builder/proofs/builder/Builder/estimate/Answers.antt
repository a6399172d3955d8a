use Rattle.std.proofs.Common.{Some, refl, subst}
use Rattle.std.proofs.lemmas.Result.{err_from_is_err_and}
use Rattle.papergrid_builder.specs.Layouts.{IsFoundTable, IsNoFoundTable}
use Rattle.papergrid_builder.specs.BuilderStates.{BuilderState}
use Rattle.papergrid_builder.specs.ForProofs.Kept.{found_of}
use Rattle.papergrid_builder.specs.ForProofs.Texts.{rows_told}
use Rattle.papergrid_builder.proofs.builder.Builder.estimate.Goals as goal

pub returns-in_err-found-clause-fault : goal.returns-in_err-found-clause-fault
returns-in_err-found-clause-fault c =
    let p = err_from_is_err_and c.from_residual.result c.from_residual.ensures.1 in
    let told = subst (λ starts. IsNoFoundTable c.self.inside.settings.items (rows_told c.self.inside.cells starts) c.args.sizing c.in_err-found.field-0.0) c.deref.ensures.value
    c.in_err-found.ensures.err in
    rw (p.1, p.2) (subst (λ (t : BuilderState). IsNoFoundTable t.settings t.rows c.args.sizing c.in_err-found.field-0.0) c.self.view_is told)

pub invariant_of-self : goal.invariant_of-self
invariant_of-self c =
    let found = found_of c.in_ok-found.found in
    record {
      in_range = c.self.invariant.in_range;
      within = c.self.invariant.within;
      current = (
        c.args.sizing,
        subst (λ starts. IsFoundTable c.self.inside.settings.items (rows_told c.self.inside.cells starts) c.args.sizing found) c.deref.ensures.value
            c.in_ok-found.ensures.ok,
      );
    }

pub returns-clause-ok : goal.returns-clause-ok
returns-clause-ok c =
    let found = found_of c.in_ok-found.found in
    let told = subst (λ starts. IsFoundTable c.self.inside.settings.items (rows_told c.self.inside.cells starts) c.args.sizing found) c.deref.ensures.value
    c.in_ok-found.ensures.ok in (
      found,
      subst (λ (t : BuilderState). IsFoundTable t.settings t.rows c.args.sizing found) c.self.view_is told,
      refl,
      λ i. record {
        settings = (c.self.view_is i).settings;
        rows = (c.self.view_is i).rows;
        goes_on = (c.self.view_is i).goes_on;
        found = Some found;
        picture = (c.self.view_is i).picture;
      },
    )
