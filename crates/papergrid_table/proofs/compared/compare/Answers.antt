use Rattle.std.proofs.Common.{◌≡◌, ◌∙◌, ◌++◌, ap, subst, sym}
use Rattle.std.specs.Prelude.{IfSome}
use Rattle.papergrid_table.specs.Places.{first_mismatch}
use Rattle.papergrid_table.proofs.compared.compare.Goals as goal

pub returns-in-Ok-clause-compared : goal.returns-in-Ok-clause-compared
returns-in-Ok-clause-compared g c =
    let written = c.in-Ok.ensures.runs.written in
    let table : c.deref.result.now ≡ written.0 =
    c.deref.ensures.value ∙ ap (λ v. v.items) c.into_bytes.ensures ∙ written.2 ∙ ap (λ before. before ++ written.0) c.new-table.ensures.bytes in
    let same = c.first_difference.ensures in (
      written.0,
      written.1,
      (λ none. same.none.0 none ∙ table, λ is. same.none.1 (is ∙ sym table)),
      subst (λ bytes. IfSome c.first_difference.result (λ difference. difference ≡ first_mismatch c.args.picture.now bytes)) table same.first,
    )
