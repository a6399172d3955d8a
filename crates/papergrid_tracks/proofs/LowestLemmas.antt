-- The lowest positions of the boundaries, each as far to the left as the cells let it be: they are boundaries, and no boundaries are below them.
use Rattle.std.proofs.Common.{◌≡◌, ℕ, sum, zero, suc, ◌+◌, ◌≤◌, max, Bool, true, ◌==◌, inl, inr, List, [], ◌∷◌, get_or, map, ◌-◌, refl, sym, ap, ◌∙◌, arith, add-suc, add-zero, le-leb, eqb-true, eq-eqb, rules}
use Rattle.std.specs.Prelude.{All, filter, if◌then◌else◌, nat_le}
use Rattle.std.specs.List.{AllByRecursion}
use Rattle.std.proofs.lemmas.Bool.{cases_Bool, cases_lt, true≢false, lt-leb}
use Rattle.std.proofs.lemmas.List.Elements.{All-from_recursion, recursion_from_All}
use Rattle.papergrid_tracks.specs.declared.demand.Demand.{Demand}
use Rattle.papergrid_tracks.specs.Problem.{Problem, problem_of_demands}
use Rattle.papergrid_tracks.specs.Ranges.{end_of, IsInTable}
use Rattle.papergrid_tracks.specs.Fits.{greatest, Fits, IsLeast}
use Rattle.papergrid_tracks.proofs.BoundaryLemmas.{take_whole, AreBoundaries-boundaries_of, Fits-sizes_between, sum-sizes_between}
use Rattle.papergrid_tracks.specs.TrackBoundaries.{AreBoundaries, AreLowest, net_minimum, boundaries_of, sizes_between}

-- the lower bound that the cells whose ranges end at i set to its boundary
abbrev pub pushed_lower_bound : (Demand → ℕ) → List Demand → (ℕ → ℕ) → ℕ → ℕ
pushed_lower_bound asks demands boundary i = greatest (map (λ d. boundary d.start + asks d) (filter (λ d. end_of d == i) demands))

-- the lowest positions of the boundaries up to k, and past k the one at k
abbrev pub lowest_position_to : (Demand → ℕ) → List Demand → ℕ → ℕ → ℕ
lowest_position_to asks demands zero i = 0
lowest_position_to asks demands (suc k) i =
    if nat_le i k then lowest_position_to asks demands k i
    else max (lowest_position_to asks demands k k) (pushed_lower_bound asks demands (lowest_position_to asks demands k) (suc k))

-- the lowest position of the boundary at i
abbrev pub lowest_position : (Demand → ℕ) → List Demand → ℕ → ℕ
lowest_position asks demands i = lowest_position_to asks demands i i

-- the least total: the lowest position of the boundary at the end
abbrev pub least_total : Problem → ℕ
least_total problem = lowest_position (net_minimum problem.line) problem.demands problem.count

-- the greatest over the cells that pass a test
abbrev pub greatest_by : (Demand → ℕ) → (Demand → Bool) → List Demand → ℕ
greatest_by f test ds = greatest (map f (filter test ds))

greatest_by-above : (f : Demand → ℕ) (test : Demand → Bool) (ds : List Demand) (m : ℕ) → greatest_by f test ds ≤ m → AllByRecursion (λ d. test d ≡ true → f d ≤ m) ds
greatest_by-above f test [] m le = tt
greatest_by-above f test (d ∷ ds) m le = elim (cases_Bool (test d)) [
  | inl t ↦
      let le' : max (f d) (greatest_by f test ds) ≤ m = rw t at le in
      ((λ t'. omega arith), greatest_by-above f test ds m (omega arith))
  | inr f' ↦
      ((λ t'. absurd (true≢false (sym t' ∙ f'))), greatest_by-above f test ds m (rw f' at le))
]

pub greatest_by-below : (f : Demand → ℕ) (test : Demand → Bool) (ds : List Demand) (m : ℕ) → AllByRecursion (λ d. test d ≡ true → f d ≤ m) ds → greatest_by f test ds ≤ m
greatest_by-below f test [] m each = omega arith
greatest_by-below f test (d ∷ ds) m each = grind (arith, cases_Bool, greatest_by-below f test ds m each.1)

-- each cell whose range ends at i bounds its boundary from below, and nothing else does
pub pushed-above : (asks : Demand → ℕ) (ds : List Demand) (boundary : ℕ → ℕ) (i : ℕ) →
    All (λ d. end_of d ≡ i → boundary d.start + asks d ≤ pushed_lower_bound asks ds boundary i) ds
pushed-above asks ds boundary i k d l e =
    All-from_recursion (λ d. (end_of d == i) ≡ true → boundary d.start + asks d ≤ pushed_lower_bound asks ds boundary i) ds
    (greatest_by-above (λ d. boundary d.start + asks d) (λ d. end_of d == i) ds (pushed_lower_bound asks ds boundary i) (omega arith)) k d l (eq-eqb _ i e)

pub pushed-below : (asks : Demand → ℕ) (ds : List Demand) (boundary : ℕ → ℕ) (i m : ℕ) → All (λ d. end_of d ≡ i → boundary d.start + asks d ≤ m) ds → pushed_lower_bound asks ds boundary i ≤ m
pushed-below asks ds boundary i m each = search (rules, greatest_by-below, recursion_from_All, eqb-true)

module _ (asks : Demand → ℕ) (ds : List Demand) where
  lowest_position_to-before : (k i : ℕ) → i ≤ k → lowest_position_to asks ds (suc k) i ≡ lowest_position_to asks ds k i
  lowest_position_to-before k i le = rw (le-leb i k le) refl

  pub lowest_position_to-at : (k : ℕ) → lowest_position_to asks ds (suc k) (suc k) ≡ max (lowest_position_to asks ds k k) (pushed_lower_bound asks ds (lowest_position_to asks ds k) (suc k))
  lowest_position_to-at k = rw (lt-leb (suc k) k (omega arith)) refl

  -- what was found stays
  lowest_position_to-kept : (i k : ℕ) → lowest_position_to asks ds (i + k) i ≡ lowest_position asks ds i
  lowest_position_to-kept i zero = rw add-zero refl
  lowest_position_to-kept i (suc k) = rw add-suc (lowest_position_to-before (i + k) i (omega arith) ∙ lowest_position_to-kept i k)

  pub lowest_position_to-is : (k i : ℕ) → i ≤ k → lowest_position_to asks ds k i ≡ lowest_position asks ds i
  lowest_position_to-is k i le =
      let e : k ≡ i + (k - i) = omega arith in
      rw e (lowest_position_to-kept i (k - i))

  pub lowest_position-rises : (i : ℕ) → lowest_position asks ds i ≤ lowest_position asks ds (suc i)
  lowest_position-rises i = let e : lowest_position_to asks ds (suc i) (suc i) ≡ max (lowest_position_to asks ds i i) (pushed_lower_bound asks ds (lowest_position_to asks ds i) (suc i)) = lowest_position_to-at i in omega arith

  pub lowest_position-monotone : (i j : ℕ) → i ≤ j → lowest_position asks ds i ≤ lowest_position asks ds j
  lowest_position-monotone i j le = let e : j ≡ i + (j - i) = omega arith in rw e (up i (j - i))
    where
      up : (i k : ℕ) → lowest_position asks ds i ≤ lowest_position asks ds (i + k)
      up i zero = rw add-zero (omega arith)
      up i (suc k) =
          let next : lowest_position asks ds (i + k) ≤ lowest_position asks ds (suc (i + k)) = lowest_position-rises (i + k) in
          rw add-suc (omega (arith, up i k))

  module _ (n : ℕ) (table : All (IsInTable n) ds) where
    pub AreBoundaries-lowest_position : AreBoundaries asks n ds (lowest_position asks ds)
    AreBoundaries-lowest_position = grind (arith, lowest_position-rises, pushed-above, lowest_position_to-is, lowest_position_to-at)

    push_at : (boundary : ℕ → ℕ) (k : ℕ) → ((i : ℕ) → i ≤ k → lowest_position_to asks ds k i ≤ boundary i) → (d : Demand) → IsInTable n d → boundary d.start + asks d ≤ boundary (end_of d) → end_of d ≡ suc k →
        lowest_position_to asks ds k d.start + asks d ≤ boundary (suc k)
    push_at boundary k before d cell apart ends = grind arith

    -- a bound on what is found up to k
    below_to : (boundary : ℕ → ℕ) → AreBoundaries asks n ds boundary → (k : ℕ) → k ≤ n → (i : ℕ) → i ≤ k → lowest_position_to asks ds k i ≤ boundary i
    below_to boundary are zero le i le' = omega arith
    below_to boundary are (suc k) le i le' = elim (cases_lt k i) [
      | inr early ↦ rw (lowest_position_to-before k i early) (below_to boundary are k (omega arith) i early)
      | inl late ↦
          let e : i ≡ suc k = omega arith in
          let small : k ≤ n = omega arith in
          let at : lowest_position_to asks ds (suc k) (suc k) ≡ max (lowest_position_to asks ds k k) (pushed_lower_bound asks ds (lowest_position_to asks ds k) (suc k)) = lowest_position_to-at k in
          let before : lowest_position_to asks ds k k ≤ boundary k = below_to boundary are k (omega arith) k (omega arith) in
          let same : boundary (k + 1) ≡ boundary (suc k) = ap boundary (let s : k + 1 ≡ suc k = omega arith in s) in
          let pushed : pushed_lower_bound asks ds (lowest_position_to asks ds k) (suc k) ≤ boundary (suc k) =
          pushed-below asks ds (lowest_position_to asks ds k) (suc k) (boundary (suc k))
          (λ j d l ends. push_at boundary k (λ j' before'. below_to boundary are k small j' before') (get_or ds j d) (table j d l) (are.apart j d l) ends) in
          rw e (omega arith)
    ]

    pub lowest_position-below : (boundary : ℕ → ℕ) → AreBoundaries asks n ds boundary → (i : ℕ) → i ≤ n → lowest_position asks ds i ≤ boundary i
    lowest_position-below boundary are i le = below_to boundary are i le i (omega arith)

    pub AreLowest-lowest_position : AreLowest asks n ds (lowest_position asks ds)
    AreLowest-lowest_position = record { boundaries = AreBoundaries-lowest_position; below = lowest_position-below }

-- there are no two choices of lowest positions
pub one-lowest : (asks : Demand → ℕ) (n : ℕ) (ds : List Demand) (f g : ℕ → ℕ) → AreLowest asks n ds f → AreLowest asks n ds g → (i : ℕ) → i ≤ n → f i ≡ g i
one-lowest asks n ds f g is also i l = omega (arith, is.below g also.boundaries i l, also.below f is.boundaries i l)

-- no sizes that fit have a total below the last of the lowest positions, and those between them are least
module _ (line : ℕ → Bool) (n : ℕ) (demands : List Demand) (lowest : ℕ → ℕ) (are : AreLowest (net_minimum line) n demands lowest) where
  pub lowest-total : (sizes : List ℕ) → Fits (problem_of_demands line n demands) sizes → lowest n ≤ sum sizes
  lowest-total sizes fits =
      let a : lowest n ≤ boundaries_of sizes n = are.below (boundaries_of sizes) (AreBoundaries-boundaries_of line n demands sizes fits) n (omega arith) in
      omega (arith, ap sum (take_whole n sizes fits.one_each))

  pub IsLeast-lowest : All (IsInTable n) demands → IsLeast (problem_of_demands line n demands) (sizes_between n lowest)
  IsLeast-lowest table = record {
    fits = Fits-sizes_between line n demands lowest table are.boundaries;
    least = λ other fits.
        let a : lowest n ≤ sum other = lowest-total other fits in
        let b : sum (sizes_between n lowest) + lowest 0 ≡ lowest n = sum-sizes_between n lowest are.boundaries.rise in
        omega arith;
  }

pub lowest_position-total : (line : ℕ → Bool) (n : ℕ) (demands : List Demand) (sizes : List ℕ) → All (IsInTable n) demands → Fits (problem_of_demands line n demands) sizes → lowest_position (net_minimum line) demands n ≤ sum sizes
lowest_position-total line n demands sizes table fits = lowest-total line n demands _ (AreLowest-lowest_position (net_minimum line) demands n table) sizes fits

pub IsLeast-lowest_position : (line : ℕ → Bool) (n : ℕ) (demands : List Demand) → All (IsInTable n) demands → IsLeast (problem_of_demands line n demands) (sizes_between n (lowest_position (net_minimum line) demands))
IsLeast-lowest_position line n demands table = IsLeast-lowest line n demands _ (AreLowest-lowest_position (net_minimum line) demands n table) table
