use Rattle.std.proofs.Common.{◌∙◌, arith}
use Rattle.std.proofs.lemmas.List.{with_items_is}
use Rattle.std.proofs.lemmas.Result.{err_from_is_err_and}
use Rattle.papergrid_tracks.specs.Problem.{problem_of_demands}
use Rattle.papergrid_tracks.specs.declared.sizing.Sizing.TheVariants.{Least}
use Rattle.papergrid_tracks.proofs.AnswerLemmas.{AreLowestPositions-made, AreLeastSizes-made, IsRefused-refuses, total-made}
use Rattle.papergrid_tracks.proofs.SettleLemmas.{begun-by, table-begun}
use Rattle.papergrid_tracks.proofs.least.ByLeastTotalSolver.solve.Goals as goal

pub returns-in_err-sizes : goal.returns-in_err-sizes
returns-in_err-sizes g c = λ demands kept.
    let p = err_from_is_err_and c.from_residual.result c.from_residual.ensures.1 in
    rw (p.1, p.2) (c.in_err-sizes.ensures.refused Least demands kept)

pub make_least-requires-clause-table : goal.make_least-requires-clause-table
make_least-requires-clause-table g c =
    rw (c.deref.ensures.value, c.deref_mut.ensures.value, c.in_ok-sizes.ensures.begun.many) (table-begun c.requires.1 c.in_ok-sizes.ensures.begun)

pub returns-in_err-limits : goal.returns-in_err-limits
returns-in_err-limits g c = λ demands kept.
    let begun = begun-by c.in_ok-lines.ensures c.in_ok-sizes.ensures.begun in
    let refused = c.in_err-limits.ensures.refused in
    let p = err_from_is_err_and c.from_residual-in_err-limits.result c.from_residual-in_err-limits.ensures.1 in
    rw (p.1, p.2) (IsRefused-refuses kept begun _ (rw (c.deref.ensures.value, c.deref_mut.ensures.value) at refused))

pub certificate_of-requires-clause-lowest_position : goal.certificate_of-requires-clause-lowest_position
certificate_of-requires-clause-lowest_position g c =
    let begun = begun-by c.in_ok-lines.ensures c.in_ok-sizes.ensures.begun in
    let limits = rw (c.deref.ensures.value, c.deref_mut.ensures.value) at c.in_ok-limits.ensures.limits in
    let sizes = rw (c.deref.ensures.value, c.deref_mut.ensures.value) at c.in_ok-limits.ensures.sizes in
    (problem_of_demands (g.A.Axis.line c.args.axis.now) c.args.count c.requires.0, c.requires.1, rw c.deref-2.ensures.value (AreLowestPositions-made c.requires.1 begun _ limits _ sizes))

pub returns : goal.returns
returns g c = λ demands kept.
    let begun = begun-by c.in_ok-lines.ensures c.in_ok-sizes.ensures.begun in
    let limits = rw (c.deref.ensures.value, c.deref_mut.ensures.value) at c.in_ok-limits.ensures.limits in
    let made = rw (c.deref.ensures.value, c.deref_mut.ensures.value) at c.in_ok-limits.ensures.sizes in
    let sizes = with_items_is c.in_ok-sizes.sizes c.make_least.new.sizes (omega arith) ∙ made in
    record {
      sizes = AreLeastSizes-made kept begun _ limits _ sizes;
      total = total-made kept begun _ limits _ sizes;
      asked = c.in_ok-certificate.ensures.asked _ kept (rw c.deref-2.ensures.value (AreLowestPositions-made kept begun _ limits _ made));
      unasked = c.in_ok-certificate.ensures.unasked;
    }
