use Rattle.std.proofs.Common.{inl, inr, refl}
use Rattle.papergrid_table.proofs.WitnessLemmas.{ends-otherwise, ends-so}
use Rattle.papergrid_table.proofs.witness.without_last_end.Goals as goal

pub returns-in-Some : goal.returns-in-Some
returns-in-Some c =
    let cases = rw c.in-Some.is at c.strip_suffix.ensures.cases in
    inl (ends-so c.args.lines.now c.as_slice.result.now c.in-Some.kept.now 10 c.as_slice.ensures cases.0 cases.1)

pub returns-in-None : goal.returns-in-None
returns-in-None c =
    let cases = rw c.in-None.is at c.strip_suffix.ensures.cases in
    inr (λ front is. ends-otherwise c.args.lines.now c.as_slice.result.now front 10 c.as_slice.ensures cases is, refl)
