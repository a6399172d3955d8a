use Rattle.std.proofs.Common.{rules, ◌+◌, ◌<◌, min, arith}
use Rattle.std.specs.Prelude.{All}
use Rattle.std.specs.List.Sorted.{IsNonDecreasingBy}
use Rattle.std.proofs.lemmas.List.Sorted.{All-permutation, IsNonDecreasingBy-from_sort_by_key}
use Rattle.papergrid_tracks.specs.declared.demand.Demand.{Demand}
use Rattle.papergrid_tracks.specs.Ranges.{end_of}
use Rattle.papergrid_tracks.proofs.cells.sort_by_end.Goals as goal

pub returns-clause-sorted : goal.returns-clause-sorted
returns-clause-sorted c =
    let sorted : IsNonDecreasingBy (λ (d : Demand). min (d.start + d.span) 18446744073709551615) c.sort_by_key.new.self.items =
    IsNonDecreasingBy-from_sort_by_key (λ d. min (d.start + d.span) 18446744073709551615) _ c.in_ok-sort_by_key.ensures.sorted (λ a r q k. search rules) in
    let small : All (λ d. end_of d < 18446744073709551616) c.sort_by_key.new.self.items = search (rules, All-permutation) in
    λ i j d le l.
    omega (arith, small i d (omega arith), sorted i j d le l, small j d l)
