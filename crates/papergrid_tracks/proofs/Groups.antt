-- A list that ascends by span is its groups of one span, one after another.
use Rattle.std.proofs.Common.{◌≡◌, ℕ, zero, suc, ◌+◌, ◌-◌, ◌<◌, ◌≤◌, Bool, true, ◌==◌, ◌&&◌, not, inl, inr, List, [], ◌∷◌, ◌++◌, filter, refl, sym, ap, ◌∙◌, arith, eqb, eq-eqb, eqb-true, lt-ltb, nat_cmp, is_lt, ap₂, ltb-true, rules}
use Rattle.std.specs.Prelude.{All, flat_map, nat_lt, ⊤}
use Rattle.std.specs.List.{AllByRecursion, range_with_len}
use Rattle.std.specs.List.Sorted.{IsNonDecreasingBy, IsStableByKey, ties}
use Rattle.std.proofs.lemmas.Bool.{cases_Bool, cases_eq}
use Rattle.std.proofs.lemmas.Bool.Decides.{nat_tests}
use Rattle.std.proofs.lemmas.List.Elements.{recursion_from_All, All-from_recursion, filter_agree}
use Rattle.papergrid_tracks.specs.declared.demand.Demand.{Demand}
use Rattle.papergrid_tracks.specs.Ranges.{IsInTable}
use Rattle.papergrid_tracks.specs.ForProofs.Settled.{longer}
use Rattle.papergrid_tracks.specs.Sizes.{by_span}
use Rattle.papergrid_tracks.proofs.FitBound.{ByRecursion-weaker}

abbrev of_span : List Demand → ℕ → List Demand
of_span ds span = filter (λ d. d.span == span) ds

abbrev IsAscending : List Demand → Type 0
IsAscending [] = ⊤
IsAscending (d ∷ ds) = AllByRecursion (λ e. d.span ≤ e.span) ds × IsAscending ds

IsAscending-from : (ds : List Demand) → IsNonDecreasingBy (λ d. d.span) ds → IsAscending ds
IsAscending-from [] h = tt
IsAscending-from (d ∷ ds) h = (
  recursion_from_All (λ e. d.span ≤ e.span) ds (λ k e l. h 0 (suc k) e (omega arith) (omega arith)),
  IsAscending-from ds (λ i j e l l'. h (suc i) (suc j) e (omega arith) (omega arith)),
)

of_span-none : (ds : List Demand) (a : ℕ) → AllByRecursion (λ d. a < d.span) ds → of_span ds a ≡ []
of_span-none [] a all = refl
of_span-none (d ∷ ds) a all = grind (arith, of_span-none ds a all.1)

-- groups of spans above that of the first cell do not have it
flat_map-skip : (d : Demand) (ds : List Demand) (a m : ℕ) → d.span < a → flat_map (of_span (d ∷ ds)) (range_with_len a m) ≡ flat_map (of_span ds) (range_with_len a m)
flat_map-skip d ds a zero l = refl
flat_map-skip d ds a (suc m) l = grind (arith, flat_map-skip d ds (a + 1) m (omega arith))

flat_map-none : (a m : ℕ) → flat_map (of_span []) (range_with_len a m) ≡ []
flat_map-none a zero = refl
flat_map-none a (suc m) = flat_map-none (a + 1) m

-- the groups from a on, where they are known from a + 1 on
groups_at : (a m : ℕ) →
    ((ds : List Demand) → IsAscending ds → AllByRecursion (λ d. (a + 1 ≤ d.span) × (d.span < a + 1 + m)) ds → flat_map (of_span ds) (range_with_len (a + 1) m) ≡ ds) →
    (ds : List Demand) → IsAscending ds → AllByRecursion (λ d. (a ≤ d.span) × (d.span < a + suc m)) ds → flat_map (of_span ds) (range_with_len a (suc m)) ≡ ds
groups_at a m later [] up all = flat_map-none a (suc m)
groups_at a m later (d ∷ ds) up all = elim (cases_eq d.span a) [
  | inl e ↦
      let rest : flat_map (of_span ds) (range_with_len a (suc m)) ≡ ds = groups_at a m later ds up.1 all.1 in
      rw (eq-eqb d.span a e) (ap (λ xs. d ∷ (of_span ds a ++ xs)) (flat_map-skip d ds (a + 1) m (omega arith)) ∙ ap (λ xs. d ∷ xs) rest)
  | inr ne ↦ grind (arith, both, of_span-none, ByRecursion-weaker)
]
  where
    both : (ds : List Demand) → AllByRecursion (λ e. d.span ≤ e.span) ds → AllByRecursion (λ e. (a ≤ e.span) × (e.span < a + suc m)) ds → a < d.span →
        AllByRecursion (λ e. (a + 1 ≤ e.span) × (e.span < a + 1 + m)) ds
    both [] up all above = tt
    both (e ∷ ds) up all above = (((omega arith), (omega arith)), both ds up.1 all.1 above)

groups : (m a : ℕ) (ds : List Demand) → IsAscending ds → AllByRecursion (λ d. (a ≤ d.span) × (d.span < a + m)) ds → flat_map (of_span ds) (range_with_len a m) ≡ ds
groups zero a [] up all = refl
groups zero a (d ∷ ds) up all = absurd (let x : a ≤ d.span = all.0.0 in let y : d.span < a + 0 = all.0.1 in omega arith)
groups (suc m) a ds up all = groups_at a m (groups m (a + 1)) ds up all

flat_map-agree : (f g : ℕ → List Demand) (a m : ℕ) → ((k : ℕ) → a ≤ k → f k ≡ g k) → flat_map f (range_with_len a m) ≡ flat_map g (range_with_len a m)
flat_map-agree f g a zero h = refl
flat_map-agree f g a (suc m) h = ap₂ (λ xs ys. xs ++ ys) (h a (omega arith)) (flat_map-agree f g (a + 1) m (λ k l. h k (omega arith)))

-- a stable sort by span keeps the cells of each span as they come
of_span-stable : (xs ys : List Demand) (k : ℕ) → IsStableByKey (λ (d : Demand). d.span) nat_cmp xs ys → of_span ys k ≡ of_span xs k
of_span-stable xs ys k stable =
    let d : Demand = record { row = 0; col = 0; start = 0; span = k; minimum = 0 } in
    filter_agree (λ e. e.span == k) (ties (λ x y. is_lt (nat_cmp x.span y.span)) d) (λ e. tie k e) ys
    ∙ stable d
    ∙ filter_agree (ties (λ x y. is_lt (nat_cmp x.span y.span)) d) (λ e. e.span == k) (λ e. sym (tie k e)) xs
  where
    tie : (k : ℕ) (e : Demand) → eqb e.span k ≡ (not (is_lt (nat_cmp k e.span)) && not (is_lt (nat_cmp e.span k)))
    tie k e = grind (arith, nat_tests)

-- a filter within a filter that it implies
filter-filter : (p q : Demand → Bool) → ((d : Demand) → q d ≡ true → p d ≡ true) → (ds : List Demand) → filter q (filter p ds) ≡ filter q ds
filter-filter p q h [] = refl
filter-filter p q h (d ∷ ds) = grind (arith, cases_Bool, filter-filter p q h ds)

-- what a stable sort of the cells of longer spans gives
pub by_span-from_sort : (n : ℕ) (demands sorted : List Demand) → IsNonDecreasingBy (λ d. d.span) sorted → IsStableByKey (λ (d : Demand). d.span) nat_cmp (longer demands) sorted →
    AllByRecursion (λ d. (2 ≤ d.span) × (d.span ≤ n)) sorted → sorted ≡ by_span n demands
by_span-from_sort n demands sorted up stable all =
    sym (groups (n - 1) 2 sorted (IsAscending-from sorted up)
    (ByRecursion-weaker (λ d. (2 ≤ d.span) × (d.span ≤ n)) (λ d. (2 ≤ d.span) × (d.span < 2 + (n - 1))) (λ d h. let x : 2 ≤ d.span = h.0 in let y : d.span ≤ n = h.1 in ((omega arith), (omega arith))) sorted all))
    ∙ flat_map-agree (of_span sorted) (of_span demands) 2 (n - 1)
    (λ k l. of_span-stable (longer demands) sorted k stable
    ∙ filter-filter (λ d. nat_lt 1 d.span) (λ d. d.span == k) (λ d e. let same : d.span ≡ k = eqb-true d.span k e in lt-ltb 1 d.span (omega arith)) demands)

-- the cells of longer spans have spans of 2 up to n
pub longer-spans : (n : ℕ) (demands : List Demand) → All (IsInTable n) demands → All (λ d. (2 ≤ d.span) × (d.span ≤ n)) (longer demands)
longer-spans n demands table = search (rules, All-from_recursion, go, recursion_from_All, ltb-true)
  where
    go : (ds : List Demand) → AllByRecursion (IsInTable n) ds → AllByRecursion (λ d. (2 ≤ d.span) × (d.span ≤ n)) (longer ds)
    go [] all = tt
    go (d ∷ ds) all = grind (arith, cases_Bool, ltb-true, go ds all.1)
