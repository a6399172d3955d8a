use Rattle.std.proofs.Common.{◌≡◌, ◌+◌, length, ap, arith, subst, sym}
use Rattle.papergrid_config.specs.Grids.{spanned_grid}
use Rattle.papergrid_walk.specs.ForProofs.Visits.{shows_turn}
use Rattle.papergrid_layout.specs.Tables.{view_of}
use Rattle.papergrid_draw.specs.declared.separated.Apart.{Apart}
use Rattle.papergrid_draw.specs.ForProofs.Apart.{AreTested}
use Rattle.papergrid_draw.proofs.ApartLemmas.{tested-more, tested-turn}
use Rattle.papergrid_draw.proofs.separated.row_apart.Goals as goal

pub loop-col-preserved : goal.loop-col-preserved
loop-col-preserved c =
    let table = view_of c.args.table.now in
    let more = tested-more table c.args.row c.loop-col.col c.loop-col.apart c.in_ok-here.here c.loop-col.invariant.tested c.in_ok-here.ensures.apart in
    record {
      shows = c.in_ok-here.ensures.shows;
      tested = subst (λ (a : Apart). AreTested table a c.args.row (c.loop-col.col + 1)) (sym c.and-apart.ensures) more;
    }

pub returns-clause-shows : goal.returns-clause-shows
returns-clause-shows c = shows_turn (spanned_grid c.args.table.now.config) c.loop-col.sweep c.args.row c.loop-col.col c.loop-col.invariant.shows

pub returns-clause-apart : goal.returns-clause-apart
returns-clause-apart c =
    let last : c.loop-col.col ≡ length c.args.table.now.widths = omega (arith, ap (λ s. s.1) c.shape-col-end.ensures) in
    tested-turn (view_of c.args.table.now) c.args.row c.loop-col.col c.loop-col.apart last c.loop-col.invariant.tested
