-- Boundaries by what is kept of the cells are boundaries by what they ask.
use Rattle.std.proofs.Common.{◌≡◌, ℕ, ◌+◌, ◌-◌, ◌<◌, ◌≤◌, ◌∙◌, Bool, true, ◌&&◌, ◌==◌, not, inl, inr, List, length, get_or, refl, ap, arith, eq-eqb, eqb-true, rules}
use Rattle.std.specs.Prelude.{All, Contains, map, count_by}
use Rattle.std.specs.List.{range_with_len}
use Rattle.std.proofs.lemmas.Bool.{and_from, and_parts, cases_Bool}
use Rattle.std.proofs.lemmas.List.Elements.{All-contains, All-filter, All-map, Contains-get_or, recursion_from_All}
use Rattle.papergrid_tracks.specs.declared.demand.Demand.{Demand}
use Rattle.papergrid_tracks.specs.ForProofs.Demands.{is_single, rest_of}
use Rattle.papergrid_tracks.specs.Ranges.{IsInTable, end_of, inner_lines}
use Rattle.papergrid_tracks.specs.Sizes.{base_size, base_sizes}
use Rattle.papergrid_tracks.proofs.DrawnLemmas.{inner-drawn}
use Rattle.papergrid_tracks.proofs.Greatest.{get_or-base_sizes, greatest_minimum-below, holds_alone, minimum-below_greatest}
use Rattle.papergrid_tracks.proofs.Orders.{Contains-filter}
use Rattle.papergrid_tracks.specs.TrackBoundaries.{AreBoundaries, AreLowest, net_minimum}
use Rattle.papergrid_tracks.specs.ForProofs.Laid.{AreLaid, with_net_minimum}
use Rattle.papergrid_tracks.specs.ForProofs.Limits.{AreLowestBoundaries, AreHighestBoundaries}
use Rattle.papergrid_tracks.proofs.LowestLemmas.{lowest_position, AreLowest-lowest_position, one-lowest}
use Rattle.papergrid_tracks.proofs.HighestLemmas.{highest_position, All-unmapped, AreBoundaries-highest_position, highest_position-above}

-- a cell that covers one track alone has no line inside of it
pub inner-alone : (line : ℕ → Bool) (d : Demand) → d.span ≡ 1 → inner_lines line d ≡ 0
inner-alone line d one = ap (λ k. count_by line (range_with_len (d.start + 1) k)) (let e : d.span - 1 ≡ 0 = omega arith in e)

module _ (line drawn : ℕ → Bool) (n limit : ℕ) (demands : List Demand) (agree : (i : ℕ) → i ≤ n → drawn i ≡ line i) (table : All (IsInTable n) demands)
    (below : All (λ d. is_single limit d ≡ true → d.start < n) demands) (base : List ℕ) (base_is : base ≡ base_sizes n demands) (many : length base ≡ n) where
  abbrev pub longer_asking : List Demand
  longer_asking = map (with_net_minimum (net_minimum drawn)) (rest_of limit demands)

  base-at : (i : ℕ) → i < n → get_or base i 0 ≡ base_size demands i
  base-at i l = ap (λ xs. get_or xs i 0) base_is ∙ get_or-base_sizes n demands i l

  same_asked : (d : Demand) → IsInTable n d → net_minimum drawn d ≡ net_minimum line d
  same_asked d cell = let e : inner_lines drawn d ≡ inner_lines line d = inner-drawn drawn line n agree d cell in omega arith

  pub AreLaid-from_boundaries : (boundary : ℕ → ℕ) → AreBoundaries (net_minimum line) n demands boundary → AreLaid base longer_asking boundary
  AreLaid-from_boundaries boundary are = record {
    steps = λ i from l. step i (omega arith);
    apart = All-map (λ d. boundary d.start + d.minimum ≤ boundary (end_of d)) (with_net_minimum (net_minimum drawn)) (rest_of limit demands)
        (All-filter (λ d. not (is_single limit d)) (λ d. boundary d.start + net_minimum drawn d ≤ boundary (end_of d)) demands
        (λ k d l. apart_at (get_or demands k d) (table k d l) (are.apart k d l)));
  }
    where
      apart_at : (d : Demand) → IsInTable n d → boundary d.start + net_minimum line d ≤ boundary (end_of d) → boundary d.start + net_minimum drawn d ≤ boundary (end_of d)
      apart_at d cell apart = let e : net_minimum drawn d ≡ net_minimum line d = same_asked d cell in omega arith

      alone : (i : ℕ) (d : Demand) → boundary d.start + net_minimum line d ≤ boundary (end_of d) → (d.span == 1 && d.start == i) ≡ true → d.minimum ≤ boundary (i + 1) - boundary i
      alone i d apart t = grind (arith, holds_alone, inner-alone)

      step : (i : ℕ) → i < n → boundary i + get_or base i 0 ≤ boundary (i + 1)
      step i l =
          let e : get_or base i 0 ≡ base_size demands i = base-at i l in
          let b : base_size demands i ≤ boundary (i + 1) - boundary i = grind (arith, greatest_minimum-below, recursion_from_All, alone) in
          omega arith

  pub AreBoundaries-from_laid : (boundary : ℕ → ℕ) → AreLaid base longer_asking boundary → AreBoundaries (net_minimum line) n demands boundary
  AreBoundaries-from_laid boundary are = search (rules, apart_at, Contains-get_or, longer, All-unmapped)
    where
      longer : All (λ d. boundary d.start + net_minimum drawn d ≤ boundary (end_of d)) (rest_of limit demands)
      longer = All-unmapped (λ d. boundary d.start + d.minimum ≤ boundary (end_of d)) (with_net_minimum (net_minimum drawn)) (rest_of limit demands) are.apart

      single : (d : Demand) → Contains demands d → d.span ≡ 1 → d.start < n → boundary d.start + net_minimum line d ≤ boundary (end_of d)
      single d listed one small =
          let minimum : d.minimum ≤ base_size demands d.start = minimum-below_greatest (λ c. c.span == 1 && c.start == d.start) demands d listed (and_from _ _ (eq-eqb d.span 1 one) (eq-eqb d.start d.start refl)) in
          let e : get_or base d.start 0 ≡ base_size demands d.start = base-at d.start small in
          let s : boundary d.start + get_or base d.start 0 ≤ boundary (d.start + 1) = are.steps d.start (omega arith) (omega arith) in
          let q : boundary (end_of d) ≡ boundary (d.start + 1) = ap boundary (let s : end_of d ≡ d.start + 1 = omega arith in s) in
          omega arith

      apart_at : (d : Demand) → Contains demands d → IsInTable n d → (is_single limit d ≡ true → d.start < n) → boundary d.start + net_minimum line d ≤ boundary (end_of d)
      apart_at d listed cell small = elim (cases_Bool (is_single limit d)) [
        | inl t ↦ grind (arith, single, eqb-true, and_parts)
        | inr f ↦
            let passes : not (is_single limit d) ≡ true = ap not f in
            let apart : boundary d.start + net_minimum drawn d ≤ boundary (end_of d) =
            All-contains (λ d. boundary d.start + net_minimum drawn d ≤ boundary (end_of d)) (rest_of limit demands) d longer (Contains-filter (λ d. not (is_single limit d)) demands d listed passes) in
            let e : net_minimum drawn d ≡ net_minimum line d = same_asked d cell in
            omega arith
      ]

  pub lowest-asked : (boundaries : List ℕ) → AreLowestBoundaries base longer_asking boundaries → AreLowest (net_minimum line) n demands (λ i. get_or boundaries i 0)
  lowest-asked boundaries is = record {
    boundaries = AreBoundaries-from_laid (λ i. get_or boundaries i 0) is.laid;
    below = λ boundary are i l. is.below boundary (AreLaid-from_boundaries boundary are) i (omega arith);
  }

  pub lowest_position-is : (boundaries : List ℕ) → AreLowestBoundaries base longer_asking boundaries → (i : ℕ) → i ≤ n → get_or boundaries i 0 ≡ lowest_position (net_minimum line) demands i
  lowest_position-is boundaries is = one-lowest (net_minimum line) n demands (λ i. get_or boundaries i 0) _ (lowest-asked boundaries is) (AreLowest-lowest_position (net_minimum line) demands n table)

  pub highest_position-is : (boundaries : List ℕ) (total : ℕ) → total ≡ lowest_position (net_minimum line) demands n → AreHighestBoundaries base longer_asking total boundaries → (i : ℕ) → i ≤ n → get_or boundaries i 0 ≡ highest_position (net_minimum line) n demands i
  highest_position-is boundaries total total_is is i l =
      let end' : get_or boundaries (length base) 0 ≡ get_or boundaries n 0 = ap (λ k. get_or boundaries k 0) many in
      let a : highest_position (net_minimum line) n demands i ≤ get_or boundaries i 0 = is.above (highest_position (net_minimum line) n demands) (AreLaid-from_boundaries (highest_position (net_minimum line) n demands) (AreBoundaries-highest_position (net_minimum line) n demands table)) (omega arith) i (omega arith) in
      let b : get_or boundaries i 0 ≤ highest_position (net_minimum line) n demands i = highest_position-above (net_minimum line) n demands table (λ i. get_or boundaries i 0) (AreBoundaries-from_laid (λ i. get_or boundaries i 0) is.laid) (omega arith) i l in
      omega arith
