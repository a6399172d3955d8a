use Rattle.std.proofs.Common.{◌≡◌, ℕ, ◌<◌, ◌∙◌, length, get_or, ap, arith, subst, sym, None}
use Rattle.std.specs.Prelude.{find, reverse}
use Rattle.papergrid_tracks.specs.ForProofs.Settled.{line_at}
use Rattle.papergrid_tracks.specs.TrackBoundaries.{net_minimum}
use Rattle.papergrid_tracks.specs.CriticalPath.{is_tight}
use Rattle.std.proofs.lemmas.List.{with_items_is}
use Rattle.papergrid_tracks.specs.LeastAnswers.{AreCriticalPath}
use Rattle.papergrid_tracks.proofs.LeastLemmas.{AreCriticalPath-critical_path}
use Rattle.papergrid_tracks.proofs.PathLemmas.{alone-boundaries, apart-boundaries, ends-boundaries, critical_path-met, starts-boundaries, table-lines}
use Rattle.papergrid_tracks.proofs.least.critical_path_positions.Goals as goal

pub mark_tight_cells-requires-clause-table : goal.mark_tight_cells-requires-clause-table
mark_tight_cells-requires-clause-table c =
    rw c.deref.ensures.value (table-lines c.requires.lowest_position.0 c.args.kept.now c.requires.lowest_position.1 c.requires.small c.args.lines.now c.args.lowest_position.now c.requires.lowest_position.2)

pub mark_tight_cells-requires-clause-ends : goal.mark_tight_cells-requires-clause-ends
mark_tight_cells-requires-clause-ends c =
    let many : length c.deref_mut.result.now ≡ length c.args.lowest_position.now = omega (arith, c.deref_mut.ensures.len, c.in_ok-tight_cells.ensures.len) in
    rw (c.deref.ensures.value, many) (ends-boundaries c.requires.lowest_position.0 c.args.kept.now c.requires.lowest_position.1 c.requires.small c.args.lines.now c.args.lowest_position.now c.requires.lowest_position.2)

pub mark_tight_cells-requires-clause-apart : goal.mark_tight_cells-requires-clause-apart
mark_tight_cells-requires-clause-apart c =
    rw c.deref.ensures.value (apart-boundaries c.requires.lowest_position.0 c.args.kept.now c.requires.lowest_position.1 c.requires.small c.args.lines.now c.args.lowest_position.now c.requires.lowest_position.2)

pub follow-requires-clause-alone : goal.follow-requires-clause-alone
follow-requires-clause-alone c =
    rw c.deref-2.ensures.value (alone-boundaries c.requires.lowest_position.0 c.args.kept.now c.requires.lowest_position.1 c.requires.small c.args.lines.now c.args.lowest_position.now c.requires.lowest_position.2)

pub follow-requires-clause-starts : goal.follow-requires-clause-starts
follow-requires-clause-starts c =
    let many : length c.mark_tight_cells.new.tight_cells ≡ length c.args.lowest_position.now = omega (arith, c.mark_tight_cells.ensures.length, c.deref_mut.ensures.len, c.in_ok-tight_cells.ensures.len) in
    let first : (i : ℕ) → i < length c.mark_tight_cells.new.tight_cells → get_or c.mark_tight_cells.new.tight_cells i None ≡ find (is_tight (net_minimum (line_at c.args.lines.now)) (λ i. get_or c.args.lowest_position.now i 0) i) c.args.kept.now.rest.items =
    rw c.deref.ensures.value at c.mark_tight_cells.ensures.first in
    let tight_cells_are : c.deref-3.result.now ≡ c.mark_tight_cells.new.tight_cells = c.deref-3.ensures.value ∙ with_items_is c.in_ok-tight_cells.tight_cells c.mark_tight_cells.new.tight_cells (omega arith) in
    rw tight_cells_are (starts-boundaries c.requires.lowest_position.0 c.args.kept.now c.requires.lowest_position.1 c.requires.small c.args.lines.now c.args.lowest_position.now c.requires.lowest_position.2 c.mark_tight_cells.new.tight_cells many first)

pub returns : goal.returns
returns c = λ problem is are in_order.
    let many : length c.mark_tight_cells.new.tight_cells ≡ length c.args.lowest_position.now = omega (arith, c.mark_tight_cells.ensures.length, c.deref_mut.ensures.len, c.in_ok-tight_cells.ensures.len) in
    let first : (i : ℕ) → i < length c.mark_tight_cells.new.tight_cells → get_or c.mark_tight_cells.new.tight_cells i None ≡ find (is_tight (net_minimum (line_at c.args.lines.now)) (λ i. get_or c.args.lowest_position.now i 0) i) c.args.kept.now.rest.items =
    rw c.deref.ensures.value at c.mark_tight_cells.ensures.first in
    let tight_cells_are : c.deref-3.result.now ≡ c.mark_tight_cells.new.tight_cells = c.deref-3.ensures.value ∙ with_items_is c.in_ok-tight_cells.tight_cells c.mark_tight_cells.new.tight_cells (omega arith) in
    let exact = c.reverse.ensures.items ∙ ap reverse (rw (c.deref-2.ensures.value, tight_cells_are) at c.in_ok-positions.ensures)
    ∙ critical_path-met problem c.args.kept.now is c.requires.small c.args.lines.now c.args.lowest_position.now are c.mark_tight_cells.new.tight_cells many first in_order in
    subst (AreCriticalPath problem) (sym exact) (AreCriticalPath-critical_path problem are.table are.none_out are.total)
