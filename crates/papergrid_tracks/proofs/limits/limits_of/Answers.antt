use Rattle.std.proofs.Common.{rules, ◌≡◌, ℕ, ◌+◌, ◌<◌, ◌≤◌, ◌∙◌, length, get_or, sym, subst, arith}
use Rattle.std.specs.Prelude.{All, map}
use Rattle.std.specs.List.Sorted.{IsPermutation}
use Rattle.std.proofs.lemmas.List.Sorted.{All-permutation, IsPermutation-trans}
use Rattle.std.proofs.lemmas.List.{get_or_default}
use Rattle.std.proofs.lemmas.Grind.{common_steps}
use Rattle.papergrid_values.specs.Lines.{all_lines}
use Rattle.papergrid_tracks.specs.ForProofs.Settled.{line_at}
use Rattle.papergrid_tracks.specs.Ranges.{IsInTable, end_of}
use Rattle.papergrid_tracks.proofs.LoopLemmas.{all_lines-drawn}
use Rattle.papergrid_tracks.specs.TrackBoundaries.{net_minimum}
use Rattle.papergrid_tracks.specs.ForProofs.Laid.{AreLaid, with_net_minimum}
use Rattle.papergrid_tracks.specs.ForProofs.Limits.{AreLowestBoundaries, AreHighestBoundaries, Refuses}
use Rattle.papergrid_tracks.proofs.PermutedLemmas.{AreLaid-permuted, AreLowestBoundaries-unpermuted, AreHighestBoundaries-unpermuted, Refuses-weaker, ends-fit, table-carrying}
use Rattle.papergrid_tracks.proofs.limits.limits_of.Goals as goal

pub sort_by_end-requires : goal.sort_by_end-requires
sort_by_end-requires c =
    subst (All (λ d. end_of d < 18446744073709551616)) (sym c.in_ok-ordered.ensures)
    (ends-fit (length c.args.base.now) (map (with_net_minimum (net_minimum (line_at c.args.lines.now))) c.args.cells.now) (omega arith)
    (table-carrying (net_minimum (line_at c.args.lines.now)) (length c.args.base.now) c.args.cells.now c.requires.table))

pub lowest_of-requires-clause-table : goal.lowest_of-requires-clause-table
lowest_of-requires-clause-table c =
    let moved : IsPermutation (map (with_net_minimum (net_minimum (line_at c.args.lines.now))) c.args.cells.now) c.sort_by_end.new.cells.items = subst (λ xs. IsPermutation xs c.sort_by_end.new.cells.items) c.in_ok-ordered.ensures c.in_ok-sort_by_end.ensures.permutation in
    subst (All (IsInTable (length c.args.base.now))) (sym c.deref.ensures.value)
    (All-permutation (IsInTable (length c.args.base.now)) (map (with_net_minimum (net_minimum (line_at c.args.lines.now))) c.args.cells.now) c.sort_by_end.new.cells.items moved
    (table-carrying (net_minimum (line_at c.args.lines.now)) (length c.args.base.now) c.args.cells.now c.requires.table))

pub returns-in_err-lowest_position-clause-refused : goal.returns-in_err-lowest_position-clause-refused
returns-in_err-lowest_position-clause-refused c =
    let moved : IsPermutation (map (with_net_minimum (net_minimum (line_at c.args.lines.now))) c.args.cells.now) c.deref.result.now = grind arith in
    let past : ((boundary : ℕ → ℕ) → AreLaid c.args.base.now c.deref.result.now boundary → 18446744073709551616 ≤ boundary (length c.args.base.now)) →
    ((boundary : ℕ → ℕ) → AreLaid c.args.base.now (map (with_net_minimum (net_minimum (line_at c.args.lines.now))) c.args.cells.now) boundary → 18446744073709551616 ≤ boundary (length c.args.base.now) + all_lines (line_at c.args.lines.now) (length c.args.base.now)) =
    λ large boundary are. let l : 18446744073709551616 ≤ boundary (length c.args.base.now) = large boundary (AreLaid-permuted c.args.base.now (map (with_net_minimum (net_minimum (line_at c.args.lines.now))) c.args.cells.now) c.deref.result.now moved boundary are) in omega arith in
    let refused : Refuses ((boundary : ℕ → ℕ) → AreLaid c.args.base.now (map (with_net_minimum (net_minimum (line_at c.args.lines.now))) c.args.cells.now) boundary → 18446744073709551616 ≤ boundary (length c.args.base.now) + all_lines (line_at c.args.lines.now) (length c.args.base.now)) c.in_err-lowest_position.field-0.0 =
    Refuses-weaker _ _ past c.in_err-lowest_position.field-0.0 c.in_err-lowest_position.ensures.refused in
    search rules

pub returns-in_default-clause-refused : goal.returns-in_default-clause-refused
returns-in_default-clause-refused c = λ boundary are.
    let moved : IsPermutation (map (with_net_minimum (net_minimum (line_at c.args.lines.now))) c.args.cells.now) c.deref.result.now = grind arith in
    let below : get_or c.in_ok-lowest_position.lowest_position.items (length c.args.base.now) 0 ≤ boundary (length c.args.base.now) =
    c.in_ok-lowest_position.ensures.lowest_position.below boundary (AreLaid-permuted c.args.base.now (map (with_net_minimum (net_minimum (line_at c.args.lines.now))) c.args.cells.now) c.deref.result.now moved boundary are) (length c.args.base.now) (omega arith) in
    let lines : c.count.result ≡ all_lines (line_at c.args.lines.now) (length c.args.base.now) = c.count.ensures ∙ all_lines-drawn c.args.lines.now (length c.args.base.now) c.requires.lines in
    grind (arith, common_steps, below, lines)

pub sort_later_first-requires : goal.sort_later_first-requires
sort_later_first-requires c =
    All-permutation (λ d. end_of d < 18446744073709551616) c.in_ok-ordered.ordered.items c.sort_by_end.new.cells.items c.in_ok-sort_by_end.ensures.permutation
    (subst (All (λ d. end_of d < 18446744073709551616)) (sym c.in_ok-ordered.ensures)
    (ends-fit (length c.args.base.now) (map (with_net_minimum (net_minimum (line_at c.args.lines.now))) c.args.cells.now) (omega arith)
    (table-carrying (net_minimum (line_at c.args.lines.now)) (length c.args.base.now) c.args.cells.now c.requires.table)))

pub highest_of-requires-clause-table : goal.highest_of-requires-clause-table
highest_of-requires-clause-table c =
    let moved : IsPermutation (map (with_net_minimum (net_minimum (line_at c.args.lines.now))) c.args.cells.now) c.deref-2.result.now =
    subst (IsPermutation (map (with_net_minimum (net_minimum (line_at c.args.lines.now))) c.args.cells.now)) (sym c.deref-2.ensures.value) (IsPermutation-trans (map (with_net_minimum (net_minimum (line_at c.args.lines.now))) c.args.cells.now) c.sort_by_end.new.cells.items c.sort_later_first.new.cells.items (subst (λ xs. IsPermutation xs c.sort_by_end.new.cells.items) c.in_ok-ordered.ensures c.in_ok-sort_by_end.ensures.permutation) c.in_ok-sort_later_first.ensures.permutation) in
    search (rules, All-permutation, moved, table-carrying)

pub highest_of-requires-clause-room : goal.highest_of-requires-clause-room
highest_of-requires-clause-room c =
    let moved : IsPermutation (map (with_net_minimum (net_minimum (line_at c.args.lines.now))) c.args.cells.now) c.deref.result.now = grind arith in
    let moved_again : IsPermutation (map (with_net_minimum (net_minimum (line_at c.args.lines.now))) c.args.cells.now) c.deref-2.result.now =
    subst (IsPermutation (map (with_net_minimum (net_minimum (line_at c.args.lines.now))) c.args.cells.now)) (sym c.deref-2.ensures.value) (IsPermutation-trans (map (with_net_minimum (net_minimum (line_at c.args.lines.now))) c.args.cells.now) c.sort_by_end.new.cells.items c.sort_later_first.new.cells.items (subst (λ xs. IsPermutation xs c.sort_by_end.new.cells.items) c.in_ok-ordered.ensures c.in_ok-sort_by_end.ensures.permutation) c.in_ok-sort_later_first.ensures.permutation) in
    let many : length c.in_ok-lowest_position.lowest_position.items ≡ length c.args.base.now + 1 = c.in_ok-lowest_position.ensures.lowest_position.one_more in
    let total : c.index-last.result.now ≡ get_or c.in_ok-lowest_position.lowest_position.items (length c.args.base.now) 0 =
    c.index-last.ensures ∙ get_or_default c.in_ok-lowest_position.lowest_position.items (length c.args.base.now) c.index-last.result.now 0 (omega arith) in
    let lowest_position : AreLowestBoundaries c.args.base.now (map (with_net_minimum (net_minimum (line_at c.args.lines.now))) c.args.cells.now) c.in_ok-lowest_position.lowest_position.items = AreLowestBoundaries-unpermuted c.args.base.now (map (with_net_minimum (net_minimum (line_at c.args.lines.now))) c.args.cells.now) c.deref.result.now moved c.in_ok-lowest_position.lowest_position.items c.in_ok-lowest_position.ensures.lowest_position in (
      (λ i. get_or c.in_ok-lowest_position.lowest_position.items i 0),
      AreLaid-permuted c.args.base.now (map (with_net_minimum (net_minimum (line_at c.args.lines.now))) c.args.cells.now) c.deref-2.result.now moved_again (λ i. get_or c.in_ok-lowest_position.lowest_position.items i 0) lowest_position.laid,
      omega arith,
    )

pub returns-clause-limits : goal.returns-clause-limits
returns-clause-limits c =
    let moved_again : IsPermutation (map (with_net_minimum (net_minimum (line_at c.args.lines.now))) c.args.cells.now) c.deref-2.result.now =
    subst (IsPermutation (map (with_net_minimum (net_minimum (line_at c.args.lines.now))) c.args.cells.now)) (sym c.deref-2.ensures.value) (IsPermutation-trans (map (with_net_minimum (net_minimum (line_at c.args.lines.now))) c.args.cells.now) c.sort_by_end.new.cells.items c.sort_later_first.new.cells.items (subst (λ xs. IsPermutation xs c.sort_by_end.new.cells.items) c.in_ok-ordered.ensures c.in_ok-sort_by_end.ensures.permutation) c.in_ok-sort_later_first.ensures.permutation) in
    let lines : c.count.result ≡ all_lines (line_at c.args.lines.now) (length c.args.base.now) = c.count.ensures ∙ all_lines-drawn c.args.lines.now (length c.args.base.now) c.requires.lines in
    let highest_position : AreHighestBoundaries c.args.base.now (map (with_net_minimum (net_minimum (line_at c.args.lines.now))) c.args.cells.now) c.index-last.result.now c.in_ok-highest_position.highest_position.items = AreHighestBoundaries-unpermuted c.args.base.now (map (with_net_minimum (net_minimum (line_at c.args.lines.now))) c.args.cells.now) c.deref-2.result.now moved_again c.index-last.result.now c.in_ok-highest_position.highest_position.items c.in_ok-highest_position.ensures in
    grind (arith, AreLowestBoundaries-unpermuted, highest_position, common_steps, lines)
