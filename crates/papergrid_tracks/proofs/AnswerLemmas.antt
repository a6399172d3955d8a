-- What is made of the kept cells is the answer for the problem.
use Rattle.std.proofs.Common.{◌≡◌, ℕ, ◌+◌, ◌-◌, ◌<◌, ◌≤◌, ◌∙◌, min, Bool, true, List, length, get_or, fold, sum, take, map, sym, ap, subst, arith, rules}
use Rattle.std.specs.Prelude.{All, None, Option, Some, Vec}
use Rattle.std.proofs.lemmas.List.FromFn.{fill_by_all, get_or-map-range_with_len, length-map-range_with_len}
use Rattle.std.specs.declared.alloc.Global.{Global}
use Rattle.papergrid_values.specs.Lines.{all_lines}
use Rattle.papergrid_values.specs.declared.position.Position.{Position}
use Rattle.papergrid_tracks.proofs.BySizing.{AreLeastSizes, AreLeastTooLarge}
use Rattle.papergrid_tracks.specs.declared.demand.Demand.{Demand}
use Rattle.papergrid_tracks.specs.declared.error.LayoutError.{LayoutError}
use Rattle.papergrid_tracks.specs.declared.error.LayoutError.TheVariants.{OutOfTable, TooLarge, Memory}
use Rattle.papergrid_tracks.specs.declared.demands.Demands.{Demands}
use Rattle.papergrid_tracks.specs.Sizings.{AreTooLargeBy, Certifies, IsRefused}
use Rattle.papergrid_tracks.specs.declared.sizing.Sizing.{Sizing}
use Rattle.papergrid_tracks.specs.declared.sizing.Sizing.TheVariants.{ByShares, Least}
use Rattle.papergrid_tracks.specs.Fits.{Fits, IsTooLarge}
use Rattle.papergrid_tracks.specs.ForProofs.Demands.{AreGathered, StandInOrder}
use Rattle.papergrid_tracks.specs.ForProofs.Settled.{IsBegun, line_at}
use Rattle.papergrid_tracks.specs.Problem.{Problem, problem_of_demands, total_of}
use Rattle.papergrid_tracks.specs.Ranges.{IsInTable, first_out}
use Rattle.papergrid_tracks.specs.Sizes.{base_sizes, grown_sizes, sizes_of, by_span}
use Rattle.papergrid_tracks.proofs.DrawnLemmas.{lines-drawn, sizes-drawn}
use Rattle.papergrid_tracks.proofs.OutLemmas.{AreSizesTooLarge-large, large_any, out_kept, table_demands}
use Rattle.papergrid_tracks.proofs.DemandLemmas.{by_span-kept}
use Rattle.papergrid_tracks.proofs.SettleLemmas.{base-all, table-all}
use Rattle.papergrid_tracks.specs.declared.limits.Limits.{Limits}
use Rattle.papergrid_tracks.specs.TrackBoundaries.{net_minimum, boundaries_of, sizes_between}
use Rattle.papergrid_tracks.specs.ForProofs.Laid.{AreLaid, with_net_minimum}
use Rattle.papergrid_tracks.specs.ForProofs.Limits.{AreLimits, AreLowestBoundaries, AreHighestBoundaries, Refuses}
use Rattle.papergrid_tracks.specs.ForProofs.LeastSettled.{AreLowestPositions, CertifiesInOrder}
use Rattle.papergrid_tracks.proofs.BoundaryLemmas.{AreBoundaries-boundaries_of, take_whole}
use Rattle.papergrid_tracks.proofs.LeastLemmas.{AreLeastSizes-least_of, fits-least, AreLeastTooLarge-by_all, total-least_of}
use Rattle.papergrid_tracks.proofs.LeastDemandLemmas.{AreLaid-from_boundaries, lowest-asked, lowest_position-is, highest_position-is, longer_asking}
use Rattle.papergrid_tracks.proofs.LowestLemmas.{lowest_position}
use Rattle.papergrid_tracks.proofs.HighestLemmas.{highest_position, least_of}

-- a large minimum size makes the sizes too large, however they are chosen
pub AreTooLargeBy-large : (sizing : Sizing) (n : ℕ) (kept : Demands) (demands : List Demand) → AreGathered n kept demands → (line : ℕ → Bool) →
    first_out n kept.rest.items ≡ None → kept.is_large ≡ true → AreTooLargeBy sizing (problem_of_demands line n demands)
AreTooLargeBy-large ByShares n kept demands is line inside large = AreSizesTooLarge-large n kept demands is line inside large
AreTooLargeBy-large Least n kept demands is line inside large =
    grind (arith, AreLeastTooLarge-by_all, table_demands n kept demands is inside, out_kept, large_any)

-- where the boundaries agree, so do the sizes between them
between-same : (n : ℕ) (f g : ℕ → ℕ) → ((i : ℕ) → i ≤ n → f i ≡ g i) → sizes_between n f ≡ sizes_between n g
between-same n f g same =
    fill_by_all (λ i. g (i + 1) - g i) (sizes_between n f) n 0 (length-map-range_with_len (λ i. f (i + 1) - f i) 0 n) at
  where
    at : (k : ℕ) → k < n → get_or (sizes_between n f) k 0 ≡ g (k + 1) - g k
    at k l = grind (arith, get_or-map-range_with_len)

module _ {line : ℕ → Bool} {n : ℕ} {kept : Demands} {demands : List Demand} (is_kept : AreGathered n kept demands) {lines : List Bool} {base : List ℕ} (begun : IsBegun line n kept lines base) where
  abbrev drawn : ℕ → Bool
  drawn = line_at lines

  table : All (IsInTable n) demands
  table = table-all is_kept begun

  base_is : base ≡ base_sizes n demands
  base_is = base-all is_kept begun

  abbrev asking : List Demand
  asking = map (with_net_minimum (net_minimum drawn)) kept.rest.items

  asking_are : asking ≡ longer_asking line drawn n is_kept.limit demands begun.drawn table is_kept.below base base_is begun.many
  asking_are = ap (map (with_net_minimum (net_minimum drawn))) (is_kept.held.exact begun.small)

  all_drawn : all_lines drawn n ≡ all_lines line n
  all_drawn = lines-drawn drawn line n begun.drawn

  past : ((boundary : ℕ → ℕ) → AreLaid base asking boundary → 18446744073709551616 ≤ boundary (length base) + all_lines drawn (length base)) → AreLeastTooLarge (problem_of_demands line n demands)
  past large = AreLeastTooLarge-by_all (problem_of_demands line n demands) table (out_kept n kept demands is_kept ∙ begun.inside) each
    where
      each : (other : List ℕ) → Fits (problem_of_demands line n demands) other → IsTooLarge (problem_of_demands line n demands) other
      each other fits =
          let laid : AreLaid base asking (boundaries_of other) =
          subst (λ cells. AreLaid base cells (boundaries_of other)) (sym asking_are)
          (AreLaid-from_boundaries line drawn n is_kept.limit demands begun.drawn table is_kept.below base base_is begun.many (boundaries_of other) (AreBoundaries-boundaries_of line n demands other fits)) in
          let l : 18446744073709551616 ≤ boundaries_of other (length base) + all_lines drawn (length base) = large (boundaries_of other) laid in
          let a : boundaries_of other (length base) ≡ boundaries_of other n = ap (boundaries_of other) begun.many in
          let b : sum (take n other) ≡ sum other = ap sum (take_whole n other fits.one_each) in
          let c : all_lines drawn (length base) ≡ all_lines drawn n = ap (all_lines drawn) begun.many in
          let d : all_lines drawn n ≡ all_lines line n = all_drawn in
          (omega arith)

  pub IsRefused-refuses : (e : LayoutError) → Refuses ((boundary : ℕ → ℕ) → AreLaid base asking boundary → 18446744073709551616 ≤ boundary (length base) + all_lines drawn (length base)) e → IsRefused Least (problem_of_demands line n demands) e
  IsRefused-refuses (OutOfTable position) refused = absurd refused
  IsRefused-refuses TooLarge refused = past refused
  IsRefused-refuses (Memory e) refused = tt

  module _ (limits : Limits) (are : AreLimits drawn base asking limits) where
    lowest_position-asking : AreLowestBoundaries base (longer_asking line drawn n is_kept.limit demands begun.drawn table is_kept.below base base_is begun.many) limits.lowest_position.items
    lowest_position-asking = subst (λ cells. AreLowestBoundaries base cells limits.lowest_position.items) asking_are are.lowest_position

    total_is : get_or limits.lowest_position.items (length base) 0 ≡ lowest_position (net_minimum line) demands n
    total_is =
        ap (λ k. get_or limits.lowest_position.items k 0) begun.many
        ∙ lowest_position-is line drawn n is_kept.limit demands begun.drawn table is_kept.below base base_is begun.many limits.lowest_position.items lowest_position-asking n (omega arith)

    highest_at : (i : ℕ) → i ≤ n → get_or limits.highest_position.items i 0 ≡ highest_position (net_minimum line) n demands i
    highest_at =
        highest_position-is line drawn n is_kept.limit demands begun.drawn table is_kept.below base base_is begun.many limits.highest_position.items (get_or limits.lowest_position.items (length base) 0) total_is
        (subst (λ cells. AreHighestBoundaries base cells (get_or limits.lowest_position.items (length base) 0) limits.highest_position.items) asking_are are.highest_position)

    shares : fold (grown_sizes drawn) base (by_span (length base) kept.rest.items) ≡ sizes_of (problem_of_demands line n demands)
    shares = grind (arith, by_span-kept, base_is, sizes-drawn, table)

    exact : (sizes : List ℕ) → sizes ≡ sizes_between (length base) (λ i. min (boundaries_of (fold (grown_sizes drawn) base (by_span (length base) kept.rest.items)) i) (get_or limits.highest_position.items i 0)) →
        sizes ≡ least_of (problem_of_demands line n demands)
    exact sizes e = search (rules, between-same, highest_position, shares, highest_at)

    module _ (sizes : List ℕ) (e : sizes ≡ sizes_between (length base) (λ i. min (boundaries_of (fold (grown_sizes drawn) base (by_span (length base) kept.rest.items)) i) (get_or limits.highest_position.items i 0))) where
      pub total-made : limits.total ≡ total_of (problem_of_demands line n demands) sizes
      total-made =
          let a : sum sizes ≡ sum (least_of (problem_of_demands line n demands)) = ap sum (exact sizes e) in
          let b : sum (least_of (problem_of_demands line n demands)) ≡ lowest_position (net_minimum line) demands n = total-least_of (problem_of_demands line n demands) table in
          let c : get_or limits.lowest_position.items (length base) 0 ≡ lowest_position (net_minimum line) demands n = total_is in
          let f : all_lines drawn (length base) ≡ all_lines line n = ap (all_lines drawn) begun.many ∙ all_drawn in
          (omega arith)

      fits-made : total_of (problem_of_demands line n demands) (least_of (problem_of_demands line n demands)) < 18446744073709551616
      fits-made = subst (λ k. k < 18446744073709551616) (total-made ∙ ap (total_of (problem_of_demands line n demands)) (exact sizes e)) are.fits

      pub AreLeastSizes-made : AreLeastSizes (problem_of_demands line n demands) sizes
      AreLeastSizes-made =
          subst (AreLeastSizes (problem_of_demands line n demands)) (sym (exact sizes e))
          (AreLeastSizes-least_of (problem_of_demands line n demands) table (out_kept n kept demands is_kept ∙ begun.inside) fits-made)

      pub AreLowestPositions-made : AreLowestPositions (problem_of_demands line n demands) lines limits.lowest_position.items
      AreLowestPositions-made = record {
        none_out = out_kept n kept demands is_kept ∙ begun.inside;
        table = table;
        total = λ sizes least. fits-least (problem_of_demands line n demands) table fits-made sizes least;
        lined = begun.lined;
        drawn = begun.drawn;
        many = are.lowest_position.one_more ∙ ap (λ k. k + 1) begun.many;
        lowest = lowest-asked line drawn n is_kept.limit demands begun.drawn table is_kept.below base base_is begun.many limits.lowest_position.items lowest_position-asking;
      }

-- where the demands stand in order, these are the positions that certify the sizes
pub Certifies-in_order : (sizing : Sizing) (problem : Problem) (certificate : Option (Vec Position Global)) → StandInOrder problem.demands →
    CertifiesInOrder sizing problem certificate → Certifies sizing problem certificate
Certifies-in_order ByShares problem certificate ordered is = is
Certifies-in_order Least problem None ordered none = none
Certifies-in_order Least problem (Some positions) ordered critical_path = critical_path ordered
