-- What is met going back by what is kept are the cells of the critical path.
use Rattle.std.proofs.Common.{◌≡◌, ◌≢◌, ℕ, zero, suc, ◌+◌, ◌-◌, ◌<◌, ◌≤◌, ◌∙◌, Bool, true, false, ◌&&◌, ◌==◌, not, inl, inr, List, [], ◌∷◌, length, get_or, refl, sym, ap, ap₂, arith, eqb, eq-eqb, eqb-true, lt-ltb, ltb-true, ne_eqb, Option, Some, None}
use Rattle.std.specs.Prelude.{All, Contains, filter, find, nat_lt}
use Rattle.std.proofs.lemmas.Bool.{and_from, and_parts, cases_Bool, cases_eq, true≢false}
use Rattle.std.proofs.lemmas.List.Elements.{All-from_recursion, All-head, All-tail, Contains-get_or, recursion_from_All}
use Rattle.papergrid_tracks.specs.declared.demand.Demand.{Demand}
use Rattle.papergrid_tracks.specs.ForProofs.Demands.{StandInOrder, first_greatest, is_single, rest_of}
use Rattle.papergrid_tracks.specs.Ranges.{IsInTable, end_of, inner_lines}
use Rattle.papergrid_tracks.specs.Sizes.{base_size, base_sizes}
use Rattle.papergrid_tracks.proofs.Counting.{find-none}
use Rattle.papergrid_tracks.proofs.DrawnLemmas.{inner-drawn}
use Rattle.papergrid_tracks.proofs.Greatest.{get_or-base_sizes, length-base_sizes, minimum-below_greatest}
use Rattle.papergrid_tracks.proofs.Orders.{filter-all}
use Rattle.papergrid_tracks.proofs.DemandLemmas.{exact_single-first, minimum-first_greatest}
use Rattle.papergrid_tracks.specs.TrackBoundaries.{net_minimum}
use Rattle.papergrid_tracks.specs.CriticalPath.{is_tight}
use Rattle.papergrid_tracks.specs.ForProofs.Followed.{earlier_cell, followed_cells, with_earlier, with_minimum}
use Rattle.papergrid_tracks.specs.ForProofs.Laid.{AreLaid}
use Rattle.papergrid_tracks.proofs.EarlierLemmas.{first-in_order}
use Rattle.papergrid_tracks.proofs.LowestLemmas.{AreBoundaries-lowest_position, lowest_position, lowest_position-rises}
use Rattle.papergrid_tracks.proofs.FollowedLemmas.{followed-even, followed-past}
use Rattle.papergrid_tracks.proofs.CriticalPathLemmas.{tight_cell, tight_cell-is_tight, tight_cells}
use Rattle.papergrid_tracks.proofs.LeastDemandLemmas.{AreLaid-from_boundaries, inner-alone, longer_asking}

-- the first cell that covers one track alone and is tight at the boundary at i
abbrev pub single_tight_cell : (Demand → ℕ) → List Demand → ℕ → Option Demand
single_tight_cell asks demands i = find (λ d. d.span == 1 && is_tight asks (lowest_position asks demands) i d) demands

-- the first cell of a longer range that does so
abbrev pub longer_tight_cell : (Demand → ℕ) → List Demand → ℕ → Option Demand
longer_tight_cell asks demands i = find (λ d. nat_lt 1 d.span && is_tight asks (lowest_position asks demands) i d) demands

-- two tests that agree find the same
pub find-agree : (p q : Demand → Bool) (ds : List Demand) → All (λ d. p d ≡ q d) ds → find p ds ≡ find q ds
find-agree p q [] same = refl
find-agree p q (d ∷ ds) same =
    grind (arith, cases_Bool (q d), All-head (λ d. p d ≡ q d) d ds same, find-agree p q ds (All-tail (λ d. p d ≡ q d) d ds same))

-- where each cell that passes also passes a second test, it is found among those that pass the second
find-kept : (p q : Demand → Bool) (ds : List Demand) → All (λ d. p d ≡ true → q d ≡ true) ds → find p ds ≡ find p (filter q ds)
find-kept p q [] kept = refl
find-kept p q (d ∷ ds) kept =
    let rest : find p ds ≡ find p (filter q ds) = find-kept p q ds (All-tail (λ d. p d ≡ true → q d ≡ true) d ds kept) in
    grind (arith, cases_Bool (p d), cases_Bool (q d), All-head (λ d. p d ≡ true → q d ≡ true) d ds kept, rest)

with_earlier-agree : (found : Option Demand) (f g : ℕ → List Demand) → ((d : Demand) → found ≡ Some d → f d.start ≡ g d.start) → with_earlier found f ≡ with_earlier found g
with_earlier-agree None f g same = refl
with_earlier-agree (Some d) f g same = ap (λ ds. d ∷ ds) (same d refl)

module _ (line drawn : ℕ → Bool) (n limit : ℕ) (demands : List Demand) (agree : (i : ℕ) → i ≤ n → drawn i ≡ line i) (table : All (IsInTable n) demands)
    (below : All (λ d. is_single limit d ≡ true → d.start < n) demands) (from_limit : n ≤ limit) (in_order : StandInOrder demands) where
  abbrev top : ℕ → ℕ
  top = lowest_position (net_minimum line) demands

  -- what the cells need that cover track j alone fits between its boundaries
  base-fits : (j : ℕ) → j < n → top j + base_size demands j ≤ top (suc j)
  base-fits j l =
      let laid : AreLaid (base_sizes n demands) (longer_asking line drawn n limit demands agree table below (base_sizes n demands) refl (length-base_sizes n demands)) top =
      AreLaid-from_boundaries line drawn n limit demands agree table below (base_sizes n demands) refl (length-base_sizes n demands) top (AreBoundaries-lowest_position (net_minimum line) demands n table) in
      let many : length (base_sizes n demands) ≡ n = length-base_sizes n demands in
      let s : top j + get_or (base_sizes n demands) j 0 ≤ top (j + 1) = laid.steps j (omega arith) (omega arith) in
      let e : get_or (base_sizes n demands) j 0 ≡ base_size demands j = get_or-base_sizes n demands j l in
      let e' : top (j + 1) ≡ top (suc j) = ap top (let q : j + 1 ≡ suc j = omega arith in q) in
      omega arith

  -- a cell that covers j alone and is tight at the next boundary needs what lies between the two
  alone : (j : ℕ) (d : Demand) → d.span ≡ 1 → is_tight (net_minimum line) top (suc j) d ≡ true → (d.start ≡ j) × (top j + d.minimum ≡ top (suc j))
  alone j d one pushed = grind (arith, and_parts, eqb-true, inner-alone)

  no_single : (j : ℕ) → j < n → top j + base_size demands j ≢ top (suc j) → single_tight_cell (net_minimum line) demands (suc j) ≡ None
  no_single j l ne =
      find-none (λ d. d.span == 1 && is_tight (net_minimum line) top (suc j) d) demands
      (recursion_from_All (λ d. (d.span == 1 && is_tight (net_minimum line) top (suc j) d) ≡ false) demands (λ k d l'. at (get_or demands k d) (Contains-get_or demands k d l')))
    where
      at : (d : Demand) → Contains demands d → (d.span == 1 && is_tight (net_minimum line) top (suc j) d) ≡ false
      at d listed = elim (cases_Bool (d.span == 1 && is_tight (net_minimum line) top (suc j) d)) [
        | inr f ↦ f
        | inl t ↦
            let parts : (eqb d.span 1 ≡ true) × (is_tight (net_minimum line) top (suc j) d ≡ true) = and_parts (eqb d.span 1) (is_tight (net_minimum line) top (suc j) d) t in
            let known : (d.start ≡ j) × (top j + d.minimum ≡ top (suc j)) = alone j d (eqb-true d.span 1 parts.0) parts.1 in
            let minimum : d.minimum ≤ base_size demands j = minimum-below_greatest (λ c. c.span == 1 && c.start == j) demands d listed (and_from _ _ parts.0 (eq-eqb d.start j known.0)) in
            let fits : top j + base_size demands j ≤ top (suc j) = base-fits j l in
            absurd (ne (omega arith))
      ]

  single : (j : ℕ) → j < n → top j < top (suc j) → top j + base_size demands j ≡ top (suc j) → single_tight_cell (net_minimum line) demands (suc j) ≡ Some (first_greatest j demands)
  single j l past e =
      let base_is : get_or (base_sizes n demands) j 0 ≡ base_size demands j = get_or-base_sizes n demands j l in
      find-agree (λ d. d.span == 1 && is_tight (net_minimum line) top (suc j) d) (λ d. d.span == 1 && d.start == j && d.minimum == get_or (base_sizes n demands) j 0) demands
      (λ k d l'. at (get_or demands k d) (table k d l'))
      ∙ exact_single-first j demands (base_sizes n demands) base_is (let some : get_or (base_sizes n demands) j 0 ≢ 0 = omega arith in some)
    where
      at : (d : Demand) → IsInTable n d → (d.span == 1 && is_tight (net_minimum line) top (suc j) d) ≡ (d.span == 1 && d.start == j && d.minimum == get_or (base_sizes n demands) j 0)
      at d cell = elim (cases_eq d.span 1) [
        | inr ne ↦ rw (ne_eqb d.span 1 ne) refl
        | inl one ↦ elim (cases_eq d.start j) [
          | inr ne ↦
              rw (eq-eqb d.span 1 one, ne_eqb (end_of d) (suc j) (omega arith), ne_eqb d.start j ne) refl
          | inl here ↦
              let inner : inner_lines line d ≡ 0 = inner-alone line d one in
              let base_is : get_or (base_sizes n demands) j 0 ≡ base_size demands j = get_or-base_sizes n demands j l in
              let same : top d.start ≡ top j = ap top here in
              grind (arith, cases_eq d.minimum (get_or (base_sizes n demands) j 0), eq-eqb)
        ]
      ]

  -- where no such cell pushes, the first that does is among the others
  module _ (boundary : ℕ → ℕ) (boundaries_are : (i : ℕ) → i ≤ n → boundary i ≡ top i) where
    same_test : (i : ℕ) → i ≤ n → (d : Demand) → IsInTable n d → is_tight (net_minimum line) top i d ≡ is_tight (net_minimum drawn) boundary i d
    same_test i l d cell = elim (cases_eq (end_of d) i) [
      | inr ne ↦ rw (ne_eqb (end_of d) i ne) refl
      | inl ends ↦
          let inner : inner_lines drawn d ≡ inner_lines line d = inner-drawn drawn line n agree d cell in
          let sum : top d.start + net_minimum line d ≡ boundary d.start + net_minimum drawn d = omega arith in
          rw (eq-eqb (end_of d) i ends, sum, (boundaries_are i l)) refl
    ]

    among_others : (i : ℕ) → i ≤ n → longer_tight_cell (net_minimum line) demands i ≡ find (is_tight (net_minimum drawn) boundary i) (rest_of limit demands)
    among_others i l =
        find-kept (λ d. nat_lt 1 d.span && is_tight (net_minimum line) top i d) (λ d. not (is_single limit d)) demands (λ k d l'. kept (get_or demands k d))
        ∙ find-agree (λ d. nat_lt 1 d.span && is_tight (net_minimum line) top i d) (is_tight (net_minimum drawn) boundary i) (rest_of limit demands)
        (λ k d l'. listed (get_or (rest_of limit demands) k d) (All-from_recursion (λ d. (not (is_single limit d) ≡ true) × IsInTable n d) (rest_of limit demands)
        (filter-all (IsInTable n) (λ d. not (is_single limit d)) demands (recursion_from_All (IsInTable n) demands table)) k d l'))
      where
        kept : (d : Demand) → (nat_lt 1 d.span && is_tight (net_minimum line) top i d) ≡ true → not (is_single limit d) ≡ true
        kept d t = grind (arith, ltb-true, and_parts)

        at : (d : Demand) → IsInTable n d → not (is_single limit d) ≡ true → (nat_lt 1 d.span && is_tight (net_minimum line) top i d) ≡ is_tight (net_minimum drawn) boundary i d
        at d cell passes = grind (arith, cases_eq d.span 1, single, and_from, eq-eqb, lt-ltb, true≢false, same_test)

        listed : (d : Demand) → (not (is_single limit d) ≡ true) × IsInTable n d → (nat_lt 1 d.span && is_tight (net_minimum line) top i d) ≡ is_tight (net_minimum drawn) boundary i d
        listed d known = at d known.1 known.0

    module _ (single_span : ℕ → Demand) (single_span_are : (i : ℕ) → i < limit → single_span i ≡ first_greatest i demands)
        (longer : ℕ → Option Demand) (longer_are : (i : ℕ) → i ≤ n → longer i ≡ find (is_tight (net_minimum drawn) boundary i) (rest_of limit demands)) where
      tight_cells-even : (steps j : ℕ) → top (suc j) ≡ top j → tight_cells (net_minimum line) demands (suc steps) (suc j) ≡ tight_cells (net_minimum line) demands steps j
      tight_cells-even steps j same = grind (arith, eq-eqb)

      tight_cells-past : (steps j : ℕ) → top (suc j) ≢ top j → tight_cells (net_minimum line) demands (suc steps) (suc j) ≡ with_earlier (tight_cell (net_minimum line) demands (suc j)) (tight_cells (net_minimum line) demands steps)
      tight_cells-past steps j ne = grind arith

      -- of each kind what is kept is the first that is tight at the boundary
      single-kept : (j : ℕ) → j < n → top j < top (suc j) → with_minimum (boundary (suc j) - boundary (suc j - 1)) (single_span (suc j - 1)) ≡ single_tight_cell (net_minimum line) demands (suc j)
      single-kept j l past = grind (arith, base-fits, minimum-first_greatest, cases_eq, eq-eqb, single, no_single)

      tight_cell-kept : (j : ℕ) → j < n → top j < top (suc j) → earlier_cell (with_minimum (boundary (suc j) - boundary (suc j - 1)) (single_span (suc j - 1))) (longer (suc j)) ≡ tight_cell (net_minimum line) demands (suc j)
      tight_cell-kept j l past =
          ap₂ earlier_cell (single-kept j l past) (longer_are (suc j) l ∙ sym (among_others (suc j) l))
          ∙ first-in_order (is_tight (net_minimum line) top (suc j)) demands (λ k d l'. (table k d l').covers_one) in_order

      pub followed-is : (steps i : ℕ) → i ≤ n → followed_cells boundary single_span longer steps i ≡ tight_cells (net_minimum line) demands steps i
      followed-is zero i l = refl
      followed-is (suc steps) zero l = grind (arith, followed-even, followed-is steps 0 (omega arith))
      followed-is (suc steps) (suc j) l =
          let e : suc j - 1 ≡ j = omega arith in
          let b' : boundary (suc j - 1) ≡ boundary j = ap boundary e in
          let rises : top j ≤ top (suc j) = lowest_position-rises (net_minimum line) demands j in
          elim (cases_eq (top (suc j)) (top j)) [
            | inl same ↦
                followed-even boundary single_span longer steps (suc j) (omega arith)
                ∙ ap (followed_cells boundary single_span longer steps) e
                ∙ followed-is steps j (omega arith)
                ∙ sym (tight_cells-even steps j same)
            | inr ne ↦
                followed-past boundary single_span longer steps (suc j) (omega arith)
                ∙ ap (λ found. with_earlier found (followed_cells boundary single_span longer steps)) (tight_cell-kept j l (omega arith))
                ∙ with_earlier-agree (tight_cell (net_minimum line) demands (suc j)) (followed_cells boundary single_span longer steps) (tight_cells (net_minimum line) demands steps)
                (λ d found. followed-is steps d.start (start_within j d l found))
                ∙ sym (tight_cells-past steps j ne)
          ]
        where
          start_within : (j : ℕ) (d : Demand) → suc j ≤ n → tight_cell (net_minimum line) demands (suc j) ≡ Some d → d.start ≤ n
          start_within j d l found =
              let ends : end_of d ≡ suc j = (tight_cell-is_tight (net_minimum line) demands n table j d found).ends in
              omega arith
