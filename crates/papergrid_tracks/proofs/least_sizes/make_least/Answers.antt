use Rattle.std.proofs.Common.{◌∙◌, length, sym, subst}
use Rattle.std.specs.Prelude.{All}
use Rattle.papergrid_tracks.specs.ForProofs.Settled.{line_at}
use Rattle.papergrid_tracks.specs.Problem.{problem_of_demands}
use Rattle.papergrid_tracks.specs.Ranges.{IsInTable}
use Rattle.papergrid_tracks.proofs.Theorems.{table-by_span}
use Rattle.papergrid_tracks.proofs.least_sizes.make_least.Goals as goal

pub grow_all-requires-clause-cells : goal.grow_all-requires-clause-cells
grow_all-requires-clause-cells c =
    subst (All (IsInTable (length c.args.sizes.now))) (sym (c.deref.ensures.value ∙ c.in_ok-longer.ensures))
    (table-by_span (problem_of_demands (line_at c.args.lines.now) (length c.args.sizes.now) c.args.cells.now) c.requires.table)
