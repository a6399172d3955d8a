-- The sizes of the least total.
use Rattle.std.proofs.Common.{◌≡◌, ◌∙◌, ℕ, suc, ◌+◌, ◌-◌, ◌<◌, ◌≤◌, min, Bool, List, length, map, get_or, take, sum, refl, sym, ap, arith, rules}
use Rattle.std.specs.Prelude.{All, None, ◌↔◌}
use Rattle.std.proofs.lemmas.Grind.{same_number_lists}
use Rattle.std.proofs.lemmas.List.FromFn.{fill_by_all}
use Rattle.papergrid_values.specs.declared.position.Position.{Position}
use Rattle.papergrid_tracks.proofs.BySizing.{AreLeastSizes, AreLeastTooLarge}
use Rattle.papergrid_tracks.specs.declared.demand.Demand.{Demand}
use Rattle.papergrid_tracks.specs.Ranges.{IsInTable, IsLaminar, first_out, position_of}
use Rattle.papergrid_tracks.specs.Problem.{Problem, problem_of_demands, total_of}
use Rattle.papergrid_tracks.specs.Fits.{Fits, IsLeast, IsCertificate, IsTooLarge, top_minimum}
use Rattle.papergrid_tracks.specs.Sizes.{sizes_of}
use Rattle.papergrid_tracks.proofs.Theorems.{Fits-sizes_of, bound-sizes_of, IsLeast-sizes_of}
use Rattle.papergrid_tracks.proofs.BoundLemmas.{bound-least_sizes}
use Rattle.papergrid_tracks.proofs.Upto.{upto, sum-take}
use Rattle.papergrid_tracks.specs.LeastAnswers.{AreCriticalPath}
use Rattle.papergrid_tracks.specs.TrackBoundaries.{net_minimum, boundaries_of, AreBoundaries, sizes_between}
use Rattle.papergrid_tracks.specs.Least.{AreFurthestRight, AreLeastBefore}
use Rattle.papergrid_tracks.proofs.BoundaryLemmas.{AreBoundaries-boundaries_of, AreBoundaries-min, Fits-sizes_between, boundaries-sizes_between, sum-sizes_between, take_whole}
use Rattle.papergrid_tracks.proofs.LowestLemmas.{AreBoundaries-lowest_position, lowest_position, least_total, lowest_position-total, IsLeast-lowest_position}
use Rattle.papergrid_tracks.proofs.CriticalPathLemmas.{IsCertificate-critical_path, critical_path}
use Rattle.papergrid_tracks.proofs.HighestLemmas.{highest_position, least_sizes, least_of, AreBoundaries-highest_position, highest_position-above}
use Rattle.papergrid_tracks.proofs.PathBackLemmas.{critical_path-is}

module _ (line : ℕ → Bool) (n : ℕ) (demands : List Demand) (sizes : List ℕ) (table : All (IsInTable n) demands) where
  -- the boundaries of the sizes, moved to the highest positions where they are past them
  abbrev lower : ℕ → ℕ
  lower i = min (boundaries_of sizes i) (highest_position (net_minimum line) n demands i)

  AreBoundaries-lower : Fits (problem_of_demands line n demands) sizes → AreBoundaries (net_minimum line) n demands lower
  AreBoundaries-lower fits =
      AreBoundaries-min (net_minimum line) n demands (boundaries_of sizes) (highest_position (net_minimum line) n demands) (AreBoundaries-boundaries_of line n demands sizes fits) (AreBoundaries-highest_position (net_minimum line) n demands table)

  pub IsLeast-least_sizes : Fits (problem_of_demands line n demands) sizes → IsLeast (problem_of_demands line n demands) (least_sizes (problem_of_demands line n demands) sizes)
  IsLeast-least_sizes fits =
      let are : AreBoundaries (net_minimum line) n demands lower = AreBoundaries-lower fits in
      record {
        fits = Fits-sizes_between line n demands lower table are;
        least = λ other fits'.
            let a : lowest_position (net_minimum line) demands n ≤ sum other = lowest_position-total line n demands other table fits' in
            let b : sum (sizes_between n lower) + lower 0 ≡ lower n = sum-sizes_between n lower are.rise in
            let d : lower n ≤ highest_position (net_minimum line) n demands n = omega arith in
            omega arith;
      }

  pub same-least_sizes : IsLeast (problem_of_demands line n demands) sizes → least_sizes (problem_of_demands line n demands) sizes ≡ sizes
  same-least_sizes is_least = sym (fill_by_all (λ i. lower (i + 1) - lower i) sizes n 0 is_least.fits.one_each size_at)
    where
      total : boundaries_of sizes n ≤ lowest_position (net_minimum line) demands n
      total =
          let are : AreBoundaries (net_minimum line) n demands (lowest_position (net_minimum line) demands) = AreBoundaries-lowest_position (net_minimum line) demands n table in
          let a : sum sizes ≤ sum (sizes_between n (lowest_position (net_minimum line) demands)) = is_least.least (sizes_between n (lowest_position (net_minimum line) demands)) (IsLeast-lowest_position line n demands table).fits in
          let b : sum (sizes_between n (lowest_position (net_minimum line) demands)) + lowest_position (net_minimum line) demands 0 ≡ lowest_position (net_minimum line) demands n = sum-sizes_between n (lowest_position (net_minimum line) demands) are.rise in
          let c : sum (take n sizes) ≡ sum sizes = ap sum (take_whole n sizes is_least.fits.one_each) in
          omega arith

      lower-is : (i : ℕ) → i ≤ n → lower i ≡ boundaries_of sizes i
      lower-is i l =
          let a : boundaries_of sizes i ≤ highest_position (net_minimum line) n demands i = highest_position-above (net_minimum line) n demands table (boundaries_of sizes) (AreBoundaries-boundaries_of line n demands sizes is_least.fits) total i l in
          omega arith

      size_at : (k : ℕ) → k < n → get_or sizes k 0 ≡ lower (k + 1) - lower k
      size_at k l =
          let a : sum (take (suc k) sizes) ≡ upto (λ i. get_or sizes i 0) k + get_or sizes k 0 = sum-take (suc k) sizes in
          let b : sum (take k sizes) ≡ upto (λ i. get_or sizes i 0) k = sum-take k sizes in
          let c : lower (k + 1) ≡ boundaries_of sizes (k + 1) = lower-is (k + 1) (omega arith) in
          let c' : boundaries_of sizes (k + 1) ≡ boundaries_of sizes (suc k) = ap (boundaries_of sizes) (let s : k + 1 ≡ suc k = omega arith in s) in
          let d : lower k ≡ boundaries_of sizes k = lower-is k (omega arith) in
          omega arith

-- sizes with the same boundaries are the same
same_boundaries : (n : ℕ) (xs ys : List ℕ) → length xs ≡ n → length ys ≡ n → ((i : ℕ) → i ≤ n → boundaries_of xs i ≡ boundaries_of ys i) → xs ≡ ys
same_boundaries n xs ys many as_many same = same_number_lists xs ys (many ∙ sym as_many) at
  where
    at : (k : ℕ) → k < length xs → get_or xs k 0 ≡ get_or ys k 0
    at k l =
        let a : sum (take (suc k) xs) ≡ upto (λ i. get_or xs i 0) k + get_or xs k 0 = sum-take (suc k) xs in
        let b : sum (take k xs) ≡ upto (λ i. get_or xs i 0) k = sum-take k xs in
        let c : sum (take (suc k) ys) ≡ upto (λ i. get_or ys i 0) k + get_or ys k 0 = sum-take (suc k) ys in
        let d : sum (take k ys) ≡ upto (λ i. get_or ys i 0) k = sum-take k ys in
        let f : sum (take k xs) ≡ sum (take k ys) = same k (omega arith) in
        omega arith

-- least sizes are too large exactly where every list that fits is
pub refused-least : (problem : Problem) (least : List ℕ) → IsLeast problem least → IsTooLarge problem least ↔ ((other : List ℕ) → Fits problem other → IsTooLarge problem other)
refused-least problem least is = search (rules, too_large)
  where
    too_large : (other : List ℕ) → IsTooLarge problem least → sum least ≤ sum other → IsTooLarge problem other
    too_large other large le = grind arith

module _ (problem : Problem) (table : All (IsInTable problem.count) problem.demands) where
  pub IsLeast-least_of : IsLeast problem (least_of problem)
  IsLeast-least_of = IsLeast-least_sizes problem.line problem.count problem.demands (sizes_of problem) table (Fits-sizes_of problem table)

  pub bound-least_of : (i : ℕ) → i < problem.count → get_or (least_of problem) i 0 ≤ top_minimum problem.demands i
  bound-least_of i l = bound-least_sizes problem.line problem.count problem.demands (sizes_of problem) table i l (bound-sizes_of problem table i l)

  pub least_of-shares : IsLeast problem (sizes_of problem) → least_of problem ≡ sizes_of problem
  least_of-shares is_least = same-least_sizes problem.line problem.count problem.demands (sizes_of problem) table is_least

  pub same-least_of : IsLaminar problem.demands → least_of problem ≡ sizes_of problem
  same-least_of apart = least_of-shares (IsLeast-sizes_of problem table apart)

  pub total-least_of : sum (least_of problem) ≡ least_total problem
  total-least_of =
      let are : AreBoundaries (net_minimum problem.line) problem.count problem.demands (lowest_position (net_minimum problem.line) problem.demands) = AreBoundaries-lowest_position (net_minimum problem.line) problem.demands problem.count table in
      let least : IsLeast problem (sizes_between problem.count (lowest_position (net_minimum problem.line) problem.demands)) = IsLeast-lowest_position problem.line problem.count problem.demands table in
      let a : sum (least_of problem) ≤ sum (sizes_between problem.count (lowest_position (net_minimum problem.line) problem.demands)) = IsLeast-least_of.least (sizes_between problem.count (lowest_position (net_minimum problem.line) problem.demands)) least.fits in
      let b : sum (sizes_between problem.count (lowest_position (net_minimum problem.line) problem.demands)) + lowest_position (net_minimum problem.line) problem.demands 0 ≡ lowest_position (net_minimum problem.line) problem.demands problem.count =
      sum-sizes_between problem.count (lowest_position (net_minimum problem.line) problem.demands) are.rise in
      let c : lowest_position (net_minimum problem.line) problem.demands problem.count ≤ sum (least_of problem) = lowest_position-total problem.line problem.count problem.demands (least_of problem) table IsLeast-least_of.fits in
      omega arith

  -- ---- the furthest right

  abbrev shares : ℕ → ℕ
  shares i = boundaries_of (sizes_of problem) i

  abbrev last : ℕ → ℕ
  last i = highest_position (net_minimum problem.line) problem.count problem.demands i

  boundaries-least_of : (i : ℕ) → i ≤ problem.count → boundaries_of (least_of problem) i ≡ min (shares i) (last i)
  boundaries-least_of i l =
      let are : AreBoundaries (net_minimum problem.line) problem.count problem.demands (λ i. min (shares i) (last i)) =
      AreBoundaries-lower problem.line problem.count problem.demands (sizes_of problem) table (Fits-sizes_of problem table) in
      let a : boundaries_of (least_of problem) i + min (shares 0) (last 0) ≡ min (shares i) (last i) = grind (arith, boundaries-sizes_between) in
      omega arith

  before-least_of : AreLeastBefore problem (least_of problem)
  before-least_of = record {
    least = IsLeast-least_of;
    nowhere_past = λ i l. let a : boundaries_of (least_of problem) i ≡ min (shares i) (last i) = boundaries-least_of i l in omega arith;
  }

  furthest-least_of : (other : List ℕ) → AreLeastBefore problem other → (i : ℕ) → i ≤ problem.count → boundaries_of other i ≤ boundaries_of (least_of problem) i
  furthest-least_of other are i l =
      let a : boundaries_of (least_of problem) i ≡ min (shares i) (last i) = boundaries-least_of i l in
      let c : boundaries_of other i ≤ last i =
      highest_position-above (net_minimum problem.line) problem.count problem.demands table (boundaries_of other)
      (AreBoundaries-boundaries_of problem.line problem.count problem.demands other are.least.fits) total i l in
      omega arith
    where
      total : boundaries_of other problem.count ≤ lowest_position (net_minimum problem.line) problem.demands problem.count
      total =
          let d : sum other ≤ sum (least_of problem) = are.least.least (least_of problem) IsLeast-least_of.fits in
          let e : sum (least_of problem) ≡ least_total problem = total-least_of in
          let f : sum (take problem.count other) ≡ sum other = ap sum (take_whole problem.count other are.least.fits.one_each) in
          omega arith

  pub furthest_right-is : (sizes : List ℕ) → AreFurthestRight problem sizes ↔ (sizes ≡ least_of problem)
  furthest_right-is sizes = search (rules, unique, before-least_of, furthest-least_of, least_of, same_boundaries)
    where
      unique : AreFurthestRight problem sizes → sizes ≡ least_of problem
      unique are = grind (arith, same_boundaries, least_of, before-least_of, furthest-least_of)

  -- the sum of any least sizes is the least total
  pub least-total : (sizes : List ℕ) → IsLeast problem sizes → sum sizes ≡ least_total problem
  least-total sizes least =
      let a : sum sizes ≤ sum (least_of problem) = least.least (least_of problem) IsLeast-least_of.fits in
      let b : sum (least_of problem) ≤ sum sizes = IsLeast-least_of.least sizes least.fits in
      let c : sum (least_of problem) ≡ least_total problem = total-least_of in
      omega arith

  -- so where some are not too large, none are
  pub fits-least : total_of problem (least_of problem) < 18446744073709551616 → (sizes : List ℕ) → IsLeast problem sizes → total_of problem sizes < 18446744073709551616
  fits-least small sizes least = grind (arith, least_total, least-total, least_of, total-least_of)

  -- and the critical path certifies them
  pub IsCertificate-least : (sizes : List ℕ) → IsLeast problem sizes → IsCertificate problem sizes (critical_path problem)
  IsCertificate-least sizes least = IsCertificate-critical_path problem.line problem.count problem.demands sizes table (least-total sizes least)

  -- ---- the answers, where no cell overflows the table

  module _ (inside : first_out problem.count problem.demands ≡ None) where
    pub AreLeastSizes-least_of : total_of problem (least_of problem) < 18446744073709551616 → AreLeastSizes problem (least_of problem)
    AreLeastSizes-least_of small = record {
      table = table;
      none_out = inside;
      exact = (furthest_right-is (least_of problem)).1 refl;
      total = small;
      fits = IsLeast-least_of.fits;
      least = λ _. IsLeast-least_of;
      bound = λ i l. bound-least_of i (let one_each : length (least_of problem) ≡ problem.count = IsLeast-least_of.fits.one_each in omega arith);
    }

    pub AreCriticalPath-critical_path : ((sizes : List ℕ) → IsLeast problem sizes → total_of problem sizes < 18446744073709551616) → AreCriticalPath problem (map position_of (critical_path problem))
    AreCriticalPath-critical_path small = record {
      table = table;
      none_out = inside;
      cells = critical_path problem;
      exact = refl;
      path = (critical_path-is problem table (critical_path problem)).1 refl;
      total = small;
      certificate = IsCertificate-least;
    }

    pub AreLeastTooLarge-by_all : ((other : List ℕ) → Fits problem other → IsTooLarge problem other) → AreLeastTooLarge problem
    AreLeastTooLarge-by_all each = grind arith

    pub AreLeastTooLarge-least_of : IsTooLarge problem (least_of problem) → AreLeastTooLarge problem
    AreLeastTooLarge-least_of large = AreLeastTooLarge-by_all ((refused-least problem (least_of problem) IsLeast-least_of).0 large)

-- what is said of least sizes, and of the cells that certify them, leaves no choice
pub exact-least : (problem : Problem) (sizes : List ℕ) → AreLeastSizes problem sizes → sizes ≡ least_of problem
exact-least problem sizes are = (furthest_right-is problem are.table sizes).0 are.exact

pub past-least : (problem : Problem) → AreLeastTooLarge problem → IsTooLarge problem (least_of problem)
past-least problem are = are.others_too_large tt (least_of problem) (IsLeast-least_of problem are.table).fits

pub exact-critical_path : (problem : Problem) (positions : List Position) → AreCriticalPath problem positions → positions ≡ map position_of (critical_path problem)
exact-critical_path problem positions are = are.exact ∙ ap (map position_of) ((critical_path-is problem are.table are.cells).0 are.path)
