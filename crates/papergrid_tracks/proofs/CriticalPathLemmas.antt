-- The cells that are tight at the lowest positions of the boundaries are a certificate of the least total.
use Rattle.std.proofs.Common.{◌≡◌, ℕ, zero, suc, ◌+◌, ◌-◌, ◌<◌, ◌≤◌, max, Bool, true, false, ◌&&◌, ◌==◌, inl, inr, List, [], ◌∷◌, length, get_or, sum, sum_by, refl, sym, ◌∙◌, arith, Option, Some, None, eqb-true, eq-eqb, ne_eqb, rules}
use Rattle.std.specs.Prelude.{All, AllPairs, Contains, find, if◌then◌else◌, reverse}
use Rattle.std.specs.List.{AllByRecursion}
use Rattle.std.proofs.lemmas.Bool.{cases_Bool, cases_eq, and_parts, and_from, true≢false}
use Rattle.std.proofs.lemmas.List.Elements.{All-from_recursion, recursion_from_All, All-contains, All-contains_itself}
use Rattle.std.proofs.lemmas.List.{get_or-reverse, length-reverse}
use Rattle.std.proofs.lemmas.List.Sorted.{All-permutation, IsPermutation-reverse, sum_by-IsPermutation}
use Rattle.std.proofs.lemmas.List.Sums.{sum_by-cons}
use Rattle.papergrid_tracks.specs.declared.demand.Demand.{Demand}
use Rattle.papergrid_tracks.specs.Problem.{Problem, problem_of_demands}
use Rattle.papergrid_tracks.specs.Ranges.{end_of, inner_lines, AreDisjoint, IsInTable}
use Rattle.papergrid_tracks.specs.Fits.{IsCertificate}
use Rattle.papergrid_tracks.proofs.RangeLemmas.{ArePairwiseDisjoint, AllPairs-from_pairwise}
use Rattle.papergrid_tracks.proofs.Counting.{find-all}
use Rattle.papergrid_tracks.proofs.FitBound.{ByRecursion-weaker}
use Rattle.papergrid_tracks.specs.TrackBoundaries.{net_minimum}
use Rattle.papergrid_tracks.specs.CriticalPath.{is_tight}
use Rattle.papergrid_tracks.specs.ForProofs.Followed.{with_earlier}
use Rattle.papergrid_tracks.proofs.EarlierLemmas.{some_none}
use Rattle.papergrid_tracks.proofs.LowestLemmas.{pushed_lower_bound, lowest_position_to, lowest_position, pushed-above, pushed-below, lowest_position_to-at, lowest_position_to-is, lowest_position-rises, lowest_position-monotone}

-- the cell that is taken as the tight one at the boundary at i: the first that is
abbrev pub tight_cell : (Demand → ℕ) → List Demand → ℕ → Option Demand
tight_cell asks demands i = find (is_tight asks (lowest_position asks demands) i) demands

-- the cells on the way back from the boundary at i. Where the boundary before has the same lowest position, the way
-- goes on to that one. Else it takes the tight cell, and goes on to where its range starts
abbrev pub tight_cells : (Demand → ℕ) → List Demand → ℕ → ℕ → List Demand
tight_cells asks demands zero i = []
tight_cells asks demands (suc steps) i =
    if lowest_position asks demands i == lowest_position asks demands (i - 1) then tight_cells asks demands steps (i - 1)
    else with_earlier (tight_cell asks demands i) (tight_cells asks demands steps)

-- the cells of the critical path, by the starts of their ranges
abbrev pub critical_path : Problem → List Demand
critical_path problem = reverse (tight_cells (net_minimum problem.line) problem.demands problem.count problem.count)

-- where `find` finds nothing, nothing passes
pub find-nothing : (test : Demand → Bool) (ds : List Demand) → find test ds ≡ None → AllByRecursion (λ d. test d ≡ false) ds
find-nothing test [] e = tt
find-nothing test (d ∷ ds) e = elim (cases_Bool (test d)) [
  | inl t ↦ absurd (let e' : Some d ≡ None = rw t at e in some_none d e')
  | inr f ↦ (f, find-nothing test ds (rw f at e))
]

-- what going back from the boundary at i gives
record Reaches (asks : Demand → ℕ) (ds : List Demand) (i : ℕ) (cells : List Demand) : Type 0 where
  adds_up : sum_by asks cells ≡ lowest_position asks ds i
  before : AllByRecursion (λ d. end_of d ≤ i) cells
  disjoint : ArePairwiseDisjoint cells
  visible : AllByRecursion (Contains ds) cells
  asking : AllByRecursion (λ d. 1 ≤ asks d) cells

module _ (asks : Demand → ℕ) (ds : List Demand) (n : ℕ) (table : All (IsInTable n) ds) where
  -- a tight cell at a boundary past the one before
  pub record IsTight (i : ℕ) (d : Demand) : Type 0 where
    pub listed : Contains ds d
    pub ends : end_of d ≡ suc i
    pub is_tight : lowest_position asks ds d.start + asks d ≡ lowest_position asks ds (suc i)

  IsTight-from : (i : ℕ) (d : Demand) → Contains ds d → is_tight asks (lowest_position asks ds) (suc i) d ≡ true → IsTight i d
  IsTight-from i d listed e = grind (arith, lowest_position, and_parts, eqb-true)

  pub tight_cell-is_tight : (i : ℕ) (d : Demand) → tight_cell asks ds (suc i) ≡ Some d → IsTight i d
  tight_cell-is_tight i d e =
      let found : (is_tight asks (lowest_position asks ds) (suc i) d ≡ true) × Contains ds d =
      find-all (Contains ds) (is_tight asks (lowest_position asks ds) (suc i)) ds d (recursion_from_All (Contains ds) ds (All-contains_itself ds)) e in
      IsTight-from i d found.1 found.0

  -- where none is found, no cell is tight at the boundary
  none-is_tight : (i : ℕ) → tight_cell asks ds (suc i) ≡ None → All (λ d. is_tight asks (lowest_position asks ds) (suc i) d ≡ false) ds
  none-is_tight i e = All-from_recursion (λ d. is_tight asks (lowest_position asks ds) (suc i) d ≡ false) ds (find-nothing (is_tight asks (lowest_position asks ds) (suc i)) ds e)

  -- a boundary past the one before has a tight cell
  pub tight_cell-none : (i : ℕ) → lowest_position asks ds i < lowest_position asks ds (suc i) → tight_cell asks ds (suc i) ≡ None → ⊥
  tight_cell-none i past e =
      let at : lowest_position asks ds (suc i) ≡ max (lowest_position asks ds i) (pushed_lower_bound asks ds (lowest_position_to asks ds i) (suc i)) = lowest_position_to-at asks ds i in
      let none : All (λ d. is_tight asks (lowest_position asks ds) (suc i) d ≡ false) ds = none-is_tight i e in
      let top : pushed_lower_bound asks ds (lowest_position_to asks ds i) (suc i) ≤ lowest_position asks ds (suc i) = omega arith in
      let below : pushed_lower_bound asks ds (lowest_position_to asks ds i) (suc i) ≤ lowest_position asks ds (suc i) - 1 =
      pushed-below asks ds (lowest_position_to asks ds i) (suc i) (lowest_position asks ds (suc i) - 1) (λ k d l ends. push_at top k d l ends (table k d l) (none k d l)) in
      omega arith
    where
      push_at : pushed_lower_bound asks ds (lowest_position_to asks ds i) (suc i) ≤ lowest_position asks ds (suc i) → (k : ℕ) (d : Demand) (l : k < length ds) → end_of (get_or ds k d) ≡ suc i → IsInTable n (get_or ds k d) →
          (end_of (get_or ds k d) == suc i && (lowest_position asks ds (get_or ds k d).start + asks (get_or ds k d) == lowest_position asks ds (suc i))) ≡ false →
          lowest_position_to asks ds i (get_or ds k d).start + asks (get_or ds k d) ≤ lowest_position asks ds (suc i) - 1
      push_at top k d l ends cell no_push =
          let a : lowest_position_to asks ds i (get_or ds k d).start + asks (get_or ds k d) ≤ pushed_lower_bound asks ds (lowest_position_to asks ds i) (suc i) = pushed-above asks ds (lowest_position_to asks ds i) (suc i) k d l ends in
          let b : lowest_position_to asks ds i (get_or ds k d).start ≡ lowest_position asks ds (get_or ds k d).start = lowest_position_to-is asks ds i (get_or ds k d).start (omega arith) in
          elim (cases_eq (lowest_position asks ds (get_or ds k d).start + asks (get_or ds k d)) (lowest_position asks ds (suc i))) [
            | inl same ↦ absurd (true≢false (sym (and_from _ _ (eq-eqb _ _ ends) (eq-eqb _ _ same)) ∙ no_push))
            | inr ne ↦ grind (arith, lowest_position)
          ]

  Reaches-step : (i : ℕ) (d : Demand) (cells : List Demand) → lowest_position asks ds i < lowest_position asks ds (suc i) → IsTight i d → IsInTable n d → Reaches asks ds d.start cells →
      Reaches asks ds (suc i) (d ∷ cells)
  Reaches-step i d cells past is_tight cell reaches =
      let le : lowest_position asks ds d.start ≤ lowest_position asks ds i = lowest_position-monotone asks ds d.start i (omega arith) in
      let a : sum_by asks (d ∷ cells) ≡ asks d + sum_by asks cells = sum_by-cons asks d cells in
      record {
        adds_up = omega arith;
        before = (omega arith, ByRecursion-weaker (λ c. end_of c ≤ d.start) (λ c. end_of c ≤ suc i) (λ c before. let before' : end_of c ≤ d.start = before in omega arith) cells reaches.before);
        disjoint = (ByRecursion-weaker (λ c. end_of c ≤ d.start) (AreDisjoint d) (λ c before. inr before) cells reaches.before, reaches.disjoint);
        visible = (is_tight.listed, reaches.visible);
        asking = (omega arith, reaches.asking);
      }

  Reaches-same : (i : ℕ) (cells : List Demand) → lowest_position asks ds (suc i) ≡ lowest_position asks ds i → Reaches asks ds i cells → Reaches asks ds (suc i) cells
  Reaches-same i cells same reaches = record {
    adds_up = reaches.adds_up ∙ sym same;
    before = ByRecursion-weaker (λ c. end_of c ≤ i) (λ c. end_of c ≤ suc i) (λ c before. let before' : end_of c ≤ i = before in omega arith) cells reaches.before;
    disjoint = reaches.disjoint;
    visible = reaches.visible;
    asking = reaches.asking;
  }

  Reaches-none : Reaches asks ds 0 []
  Reaches-none = record { adds_up = refl; before = tt; disjoint = tt; visible = tt; asking = tt }

  Reaches-tight_cell : (i : ℕ) (earlier : ℕ → List Demand) → lowest_position asks ds i < lowest_position asks ds (suc i) → ((j : ℕ) → j ≤ i → Reaches asks ds j (earlier j)) →
      (found : Option Demand) → tight_cell asks ds (suc i) ≡ found → Reaches asks ds (suc i) (with_earlier found earlier)
  Reaches-tight_cell i earlier past reaches None e = absurd (tight_cell-none i past e)
  Reaches-tight_cell i earlier past reaches (Some d) e =
      let is_tight : IsTight i d = tight_cell-is_tight i d e in
      let cell : IsInTable n d = All-contains (IsInTable n) ds d table is_tight.listed in
      Reaches-step i d (earlier d.start) past is_tight cell (reaches d.start (omega arith))

  Reaches-tight_cells : (steps i : ℕ) → i ≤ steps → Reaches asks ds i (tight_cells asks ds steps i)
  Reaches-tight_cells zero zero le = Reaches-none
  Reaches-tight_cells zero (suc i) le = absurd (omega arith)
  Reaches-tight_cells (suc steps) zero le = Reaches-tight_cells steps zero (omega arith)
  Reaches-tight_cells (suc steps) (suc i) le =
      let e : suc i - 1 ≡ i = omega arith in
      let rises : lowest_position asks ds i ≤ lowest_position asks ds (suc i) = lowest_position-rises asks ds i in
      elim (cases_eq (lowest_position asks ds (suc i)) (lowest_position asks ds i)) [
        | inl same ↦ rw (e, eq-eqb (lowest_position asks ds (suc i)) (lowest_position asks ds i) same) (Reaches-same i (tight_cells asks ds steps i) same (Reaches-tight_cells steps i (omega arith)))
        | inr ne ↦
            rw (e, ne_eqb (lowest_position asks ds (suc i)) (lowest_position asks ds i) ne)
            (Reaches-tight_cell i (tight_cells asks ds steps) (omega arith) (λ j l. Reaches-tight_cells steps j (omega arith)) (tight_cell asks ds (suc i)) refl)
      ]

-- the minimum sizes of cells that ask for something
minimums-add_up : (line : ℕ → Bool) (ds : List Demand) → AllByRecursion (λ d. 1 ≤ net_minimum line d) ds → sum_by (λ d. d.minimum) ds ≡ sum_by (net_minimum line) ds + sum_by (inner_lines line) ds
minimums-add_up line [] asking = refl
minimums-add_up line (d ∷ ds) asking =
    let a : sum_by (λ d. d.minimum) (d ∷ ds) ≡ d.minimum + sum_by (λ d. d.minimum) ds = sum_by-cons (λ d. d.minimum) d ds in
    omega (arith, minimums-add_up line ds asking.1, sum_by-cons (net_minimum line) d ds, sum_by-cons (inner_lines line) d ds)

disjoint-reversed : (cells : List Demand) → AllPairs AreDisjoint cells → AllPairs AreDisjoint (reverse cells)
disjoint-reversed cells disjoint i j d l l' = search (rules, length-reverse, get_or-reverse, swapped, disjoint)
  where
    swapped : (a b : Demand) → AreDisjoint a b → AreDisjoint b a
    swapped a b disjoint' = grind arith

pub IsCertificate-critical_path : (line : ℕ → Bool) (n : ℕ) (demands : List Demand) (sizes : List ℕ) → All (IsInTable n) demands → sum sizes ≡ lowest_position (net_minimum line) demands n →
    IsCertificate (problem_of_demands line n demands) sizes (critical_path (problem_of_demands line n demands))
IsCertificate-critical_path line n demands sizes table total =
    let moved = IsPermutation-reverse (tight_cells (net_minimum line) demands n n) in
    let reaches : Reaches (net_minimum line) demands n (tight_cells (net_minimum line) demands n n) = Reaches-tight_cells (net_minimum line) demands n table n n (omega arith) in
    let c : sum_by (λ d. d.minimum) (critical_path (problem_of_demands line n demands)) ≡ sum_by (λ d. d.minimum) (tight_cells (net_minimum line) demands n n) =
    sum_by-IsPermutation (λ d. d.minimum) (tight_cells (net_minimum line) demands n n) (critical_path (problem_of_demands line n demands)) moved in
    let e : sum_by (inner_lines line) (critical_path (problem_of_demands line n demands)) ≡ sum_by (inner_lines line) (tight_cells (net_minimum line) demands n n) =
    sum_by-IsPermutation (inner_lines line) (tight_cells (net_minimum line) demands n n) (critical_path (problem_of_demands line n demands)) moved in
    record {
      visible = All-permutation (Contains demands) (tight_cells (net_minimum line) demands n n) (critical_path (problem_of_demands line n demands)) moved (All-from_recursion (Contains demands) (tight_cells (net_minimum line) demands n n) reaches.visible);
      disjoint = disjoint-reversed (tight_cells (net_minimum line) demands n n) (AllPairs-from_pairwise (tight_cells (net_minimum line) demands n n) reaches.disjoint);
      adds_up = omega (arith, minimums-add_up line (tight_cells (net_minimum line) demands n n) reaches.asking);
    }
