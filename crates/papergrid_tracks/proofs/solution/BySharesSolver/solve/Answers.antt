use Rattle.std.proofs.Common.{◌∙◌, ap, arith}
use Rattle.std.proofs.lemmas.List.{with_items_is}
use Rattle.std.proofs.lemmas.Result.{err_from_is_err_and}
use Rattle.papergrid_tracks.specs.Problem.{problem_of_demands}
use Rattle.papergrid_tracks.specs.declared.sizing.Sizing.TheVariants.{ByShares}
use Rattle.papergrid_tracks.specs.Sizes.{by_span}
use Rattle.papergrid_tracks.proofs.SettleLemmas.{AreGrown-grown, AreSizesTooLarge-grown, table-begun, table-sorted, total-grown}
use Rattle.papergrid_tracks.proofs.Theorems.{AreSizes-sizes_of}
use Rattle.papergrid_tracks.proofs.solution.BySharesSolver.solve.Goals as goal

pub returns-in_err-sizes : goal.returns-in_err-sizes
returns-in_err-sizes g c = λ demands kept.
    let p = err_from_is_err_and c.from_residual.result c.from_residual.ensures.1 in
    rw (p.1, p.2) (c.in_err-sizes.ensures.refused ByShares demands kept)

pub by_span-requires : goal.by_span-requires
by_span-requires g c = rw c.deref.ensures.value (table-begun c.requires.1 c.in_ok-sizes.ensures.begun)

pub grow_all-requires-clause-cells : goal.grow_all-requires-clause-cells
grow_all-requires-clause-cells g c = rw c.deref_mut.ensures.value
    (table-sorted c.requires.1 c.in_ok-sizes.ensures.begun _ (c.deref-3.ensures.value ∙ c.in_ok-cells.ensures ∙ ap (by_span c.args.count) c.deref.ensures.value))

pub returns-in_default : goal.returns-in_default
returns-in_default g c = λ demands kept.
    let sorted = c.in_ok-cells.ensures ∙ ap (by_span c.args.count) c.deref.ensures.value in
    let after = with_items_is c.in_ok-sizes.sizes c.grow_all.new.sizes (omega arith) ∙ rw (c.deref-2.ensures.value, c.deref-3.ensures.value, c.deref_mut.ensures.value) at c.in_ok-growing_cells.ensures.sizes in
    AreSizesTooLarge-grown kept c.in_ok-sizes.ensures.begun _ sorted _ after (rw (c.deref-4.ensures.value, c.deref-5.ensures.value) at c.in_default.ensures)

pub certificate_of-requires : goal.certificate_of-requires
certificate_of-requires g c =
    let sorted = c.in_ok-cells.ensures ∙ ap (by_span c.args.count) c.deref.ensures.value in
    let after = with_items_is c.in_ok-sizes.sizes c.grow_all.new.sizes (omega arith) ∙ rw (c.deref-2.ensures.value, c.deref-3.ensures.value, c.deref_mut.ensures.value) at c.in_ok-growing_cells.ensures.sizes in
    let grew = c.in_ok-growing_cells.ensures.growing_cells in (
      problem_of_demands (g.A.Axis.line c.args.axis.now) c.args.count c.requires.0,
      c.requires.1,
      rw (c.deref-6.ensures.value, c.deref-7.ensures.value, c.deref-8.ensures.value) (AreGrown-grown c.requires.1 c.in_ok-sizes.ensures.begun _ sorted _ after _
          (rw (c.deref-2.ensures.value, c.deref-3.ensures.value, c.deref_mut.ensures.value) at grew) (rw (c.deref-4.ensures.value, c.deref-5.ensures.value) at c.in-Some.ensures).0),
    )

pub returns : goal.returns
returns g c = λ demands kept.
    let problem = problem_of_demands (g.A.Axis.line c.args.axis.now) c.args.count demands in
    let sorted = c.in_ok-cells.ensures ∙ ap (by_span c.args.count) c.deref.ensures.value in
    let after = with_items_is c.in_ok-sizes.sizes c.grow_all.new.sizes (omega arith) ∙ rw (c.deref-2.ensures.value, c.deref-3.ensures.value, c.deref_mut.ensures.value) at c.in_ok-growing_cells.ensures.sizes in
    let grew = c.in_ok-growing_cells.ensures.growing_cells in
    let found = rw (c.deref-4.ensures.value, c.deref-5.ensures.value) at c.in-Some.ensures in
    let are = AreGrown-grown kept c.in_ok-sizes.ensures.begun _ sorted _ after _ (rw (c.deref-2.ensures.value, c.deref-3.ensures.value, c.deref_mut.ensures.value) at grew) found.0 in
    record {
      sizes = AreSizes-sizes_of problem are.table _ are.shares are.total;
      total = found.1 ∙ total-grown kept c.in_ok-sizes.ensures.begun _ sorted _ after;
      asked = c.in_ok-certificate.ensures.asked problem kept (rw (c.deref-6.ensures.value, c.deref-7.ensures.value, c.deref-8.ensures.value) are);
      unasked = c.in_ok-certificate.ensures.unasked;
    }
