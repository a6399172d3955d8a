-- The critical path, from the lowest positions of the boundaries.
use Rattle.std.proofs.Common.{◌≡◌, ℕ, Bool, ◌&&◌, ◌==◌, ◌+◌, ◌-◌, ◌<◌, ◌≤◌, ◌∙◌, true, false, inl, inr, List, [], ◌∷◌, ◌++◌, length, get_or, map, refl, sym, ap, subst, arith, eq-eqb, ne_eqb, Option, Some, None}
use Rattle.std.specs.Prelude.{All, Contains, find, not, reverse, unwrap_or}
use Rattle.std.proofs.lemmas.Bool.{and_parts, cases_eq, cases_lt}
use Rattle.std.proofs.lemmas.List.{get_or_past, map-append, reverse-append}
use Rattle.std.proofs.lemmas.List.Elements.{All-contains_itself, All-filter, recursion_from_All}
use Rattle.papergrid_tracks.specs.declared.demand.Demand.{Demand}
use Rattle.papergrid_tracks.specs.declared.demands.Demands.{Demands}
use Rattle.papergrid_tracks.specs.ForProofs.Demands.{AreGathered, StandInOrder, first_greatest, is_single, no_demand, rest_of}
use Rattle.papergrid_tracks.specs.ForProofs.Settled.{line_at}
use Rattle.papergrid_tracks.specs.Problem.{Problem}
use Rattle.papergrid_tracks.specs.Ranges.{IsInTable, end_of, inner_lines, position_of}
use Rattle.papergrid_tracks.specs.Sizes.{base_size}
use Rattle.papergrid_tracks.proofs.Counting.{find-all}
use Rattle.papergrid_tracks.proofs.DrawnLemmas.{inner-drawn}
use Rattle.papergrid_tracks.proofs.Greatest.{holds_alone}
use Rattle.papergrid_tracks.proofs.DemandLemmas.{table-kept}
use Rattle.papergrid_tracks.specs.TrackBoundaries.{AreBoundaries, net_minimum}
use Rattle.papergrid_tracks.specs.CriticalPath.{is_tight}
use Rattle.papergrid_tracks.proofs.CriticalPathLemmas.{critical_path, tight_cells as path}
use Rattle.papergrid_tracks.specs.ForProofs.Followed.{followed_cells, kept_longer, kept_single}
use Rattle.papergrid_tracks.specs.ForProofs.LeastSettled.{AreLowestPositions}
use Rattle.papergrid_tracks.proofs.LowestLemmas.{lowest_position, AreBoundaries-lowest_position, AreLowest-lowest_position, one-lowest}
use Rattle.papergrid_tracks.proofs.PermutedLemmas.{table-wider}
use Rattle.papergrid_tracks.proofs.TightLemmas.{followed-is}

-- the first cell of greatest minimum size that covers i alone starts there, and a cell of minimum size 0 not later
starts-first_greatest : (i : ℕ) (ds : List Demand) → (first_greatest i ds).start ≤ i
unfolding first_greatest
starts-first_greatest i ds = elim (cases_eq (base_size ds i) 0) [
  | inl none ↦ rw (eq-eqb (base_size ds i) 0 none) (omega arith)
  | inr some ↦ rw (ne_eqb (base_size ds i) 0 some) (within (find (λ d. d.span == 1 && d.start == i && d.minimum == base_size ds i) ds) refl)
]
  where
    within : (found : Option Demand) → find (λ d. d.span == 1 && d.start == i && d.minimum == base_size ds i) ds ≡ found → (unwrap_or found no_demand).start ≤ i
    within None e = omega arith
    within (Some d) e =
        let passes : ((d.span == 1 && d.start == i && d.minimum == base_size ds i) ≡ true) × Contains ds d =
        find-all (Contains ds) (λ d. d.span == 1 && d.start == i && d.minimum == base_size ds i) ds d (recursion_from_All (Contains ds) ds (All-contains_itself ds)) e in
        let front : ((d.span == 1 && d.start == i) ≡ true) × ((d.minimum == base_size ds i) ≡ true) = and_parts (d.span == 1 && d.start == i) (d.minimum == base_size ds i) passes.0 in
        let here : d.start ≡ i = (holds_alone d i front.0).1 in
        omega arith

reverse-positions : (ds : List Demand) → reverse (map position_of ds) ≡ map position_of (reverse ds)
reverse-positions [] = refl
reverse-positions (d ∷ ds) =
    reverse-append (position_of d ∷ []) (map position_of ds)
    ∙ ap (λ ps. ps ++ position_of d ∷ []) (reverse-positions ds)
    ∙ sym (map-append position_of (reverse ds) (d ∷ []))
    ∙ ap (map position_of) (sym (reverse-append (d ∷ []) ds))

none_some : (d : Demand) → None ≡ Some d → ⊥
none_some d e = cc

module _ (problem : Problem) (kept : Demands) (is : AreGathered problem.count kept problem.demands) (small : kept.is_large ≡ false) (lines : List Bool) (boundaries : List ℕ) (are : AreLowestPositions problem lines boundaries) where
  -- the lines as they were read, and the lowest positions of the boundaries
  abbrev drawn : ℕ → Bool
  drawn = line_at lines

  abbrev boundary : ℕ → ℕ
  boundary i = get_or boundaries i 0

  boundary-at : (i : ℕ) → i ≤ problem.count → boundary i ≡ lowest_position (net_minimum problem.line) problem.demands i
  boundary-at = one-lowest (net_minimum problem.line) problem.count problem.demands boundary _ are.lowest (AreLowest-lowest_position (net_minimum problem.line) problem.demands problem.count are.table)

  exact : kept.rest.items ≡ rest_of is.limit problem.demands
  exact = is.held.exact small

  pub table-longer : All (IsInTable problem.count) kept.rest.items
  table-longer = table-kept problem.count kept problem.demands is small are.table

  pub table-lines : All (IsInTable (length lines)) kept.rest.items
  table-lines = table-wider problem.count (length lines) kept.rest.items (let e : length lines ≡ problem.count + 1 = are.lined in omega arith) table-longer

  pub ends-boundaries : All (λ d. end_of d < length boundaries) kept.rest.items
  ends-boundaries k d l = grind (arith, table-longer)

  pub apart-boundaries : All (λ d. boundary d.start + net_minimum drawn d ≤ boundary (end_of d)) kept.rest.items
  apart-boundaries =
      subst (All (λ d. boundary d.start + net_minimum drawn d ≤ boundary (end_of d))) (sym exact)
      (All-filter (λ d. not (is_single is.limit d)) (λ d. boundary d.start + net_minimum drawn d ≤ boundary (end_of d)) problem.demands (λ k d l. at (get_or problem.demands k d) (are.table k d l) (top.apart k d l)))
    where
      top : AreBoundaries (net_minimum problem.line) problem.count problem.demands (lowest_position (net_minimum problem.line) problem.demands)
      top = AreBoundaries-lowest_position (net_minimum problem.line) problem.demands problem.count are.table

      at : (d : Demand) → IsInTable problem.count d → lowest_position (net_minimum problem.line) problem.demands d.start + net_minimum problem.line d ≤ lowest_position (net_minimum problem.line) problem.demands (end_of d) →
          boundary d.start + net_minimum drawn d ≤ boundary (end_of d)
      at d cell apart =
          let within : end_of d ≤ problem.count = cell.ends_within in
          let inner : inner_lines drawn d ≡ inner_lines problem.line d = inner-drawn drawn problem.line problem.count are.drawn d cell in
          let a : boundary d.start ≡ lowest_position (net_minimum problem.line) problem.demands d.start = boundary-at d.start (omega arith) in
          let b : boundary (end_of d) ≡ lowest_position (net_minimum problem.line) problem.demands (end_of d) = boundary-at (end_of d) within in
          omega arith

  pub alone-boundaries : (i : ℕ) → i + 1 < length boundaries → (kept_single kept.single_span.items i).start ≤ i
  alone-boundaries i l = grind (arith, starts-first_greatest)

  module _ (tight_cells : List (Option Demand)) (same : length tight_cells ≡ length boundaries)
      (first : (i : ℕ) → i < length tight_cells → get_or tight_cells i None ≡ find (is_tight (net_minimum drawn) boundary i) kept.rest.items) where
    pub starts-boundaries : (i : ℕ) (d : Demand) → get_or tight_cells i None ≡ Some d → d.start < length boundaries
    starts-boundaries i d found = elim (cases_lt i (length tight_cells)) [
      | inl l ↦ within (find-all (Contains kept.rest.items) (is_tight (net_minimum drawn) boundary i) kept.rest.items d (recursion_from_All (Contains kept.rest.items) kept.rest.items (All-contains_itself kept.rest.items)) (sym (first i l) ∙ found)).1
      | inr past ↦ absurd (none_some d (sym (get_or_past tight_cells i None past) ∙ found))
    ]
      where
        within : Contains kept.rest.items d → d.start < length boundaries
        within listed = grind (arith, table-longer)

    pub critical_path-met : StandInOrder problem.demands → reverse (map position_of (followed_cells boundary (kept_single kept.single_span.items) (kept_longer tight_cells) (length boundaries - 1) (length boundaries - 1))) ≡ map position_of (critical_path problem)
    critical_path-met in_order =
        let last : length boundaries - 1 ≡ problem.count = omega arith in
        ap (λ k. reverse (map position_of (followed_cells boundary (kept_single kept.single_span.items) (kept_longer tight_cells) k k))) last
        ∙ ap (λ ds. reverse (map position_of ds))
        (followed-is problem.line drawn problem.count is.limit problem.demands are.drawn are.table is.below is.from_limit in_order boundary boundary-at (kept_single kept.single_span.items) (is.held.single_span small)
        (kept_longer tight_cells) (λ i l. first i (omega arith) ∙ ap (find (is_tight (net_minimum drawn) boundary i)) exact) problem.count problem.count (omega arith))
        ∙ reverse-positions (path (net_minimum problem.line) problem.demands problem.count problem.count)
