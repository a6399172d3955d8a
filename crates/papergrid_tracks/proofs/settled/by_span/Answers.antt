use Rattle.std.proofs.Common.{rules, ◌≤◌, nat_cmp, subst}
use Rattle.std.specs.List.Sorted.{IsPermutation, IsStableByKey}
use Rattle.std.proofs.lemmas.List.Elements.{recursion_from_All}
use Rattle.std.proofs.lemmas.List.Sorted.{IsNonDecreasingBy-from_sort_by_key, answers_always, All-permutation}
use Rattle.papergrid_tracks.specs.declared.demand.Demand.{Demand}
use Rattle.papergrid_tracks.specs.ForProofs.Settled.{longer}
use Rattle.papergrid_tracks.proofs.Groups.{by_span-from_sort, longer-spans}
use Rattle.papergrid_tracks.proofs.settled.by_span.Goals as goal

pub returns : goal.returns
returns c =
    let moved : IsPermutation (longer c.args.demands.now) c.sort_by_key.new.self.items = rw c.in_ok-cells.ensures at c.sort_by_key.ensures.permutation in
    let stable = c.sort_by_key.ensures.stable (λ d. d.span) (answers_always _ _ _ (λ f a r g h. search rules)) in
    by_span-from_sort c.args.count c.args.demands.now c.sort_by_key.new.self.items
    (IsNonDecreasingBy-from_sort_by_key (λ d. d.span) _ c.in_ok-sort_by_key.ensures.sorted (λ a r q k. search rules))
    (subst (λ xs. IsStableByKey (λ (d : Demand). d.span) nat_cmp xs c.sort_by_key.new.self.items) c.in_ok-cells.ensures stable)
    (recursion_from_All (λ d. (2 ≤ d.span) × (d.span ≤ c.args.count)) c.sort_by_key.new.self.items
    (All-permutation (λ d. (2 ≤ d.span) × (d.span ≤ c.args.count)) (longer c.args.demands.now) c.sort_by_key.new.self.items moved (longer-spans c.args.count c.args.demands.now c.requires)))
