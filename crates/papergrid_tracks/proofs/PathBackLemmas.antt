-- The cells of the critical path are those of the one path back from the end.
use Rattle.std.proofs.Common.{◌≡◌, ◌∙◌, ℕ, zero, suc, ◌+◌, ◌-◌, ◌<◌, ◌≤◌, inl, inr, List, [], ◌∷◌, refl, sym, arith, eq-eqb, ne_eqb, Option, Some, None}
use Rattle.std.specs.Prelude.{◌↔◌, All, reverse}
use Rattle.std.proofs.lemmas.Bool.{cases_eq}
use Rattle.std.proofs.lemmas.List.{reverse-reverse}
use Rattle.std.proofs.lemmas.List.Elements.{All-contains}
use Rattle.papergrid_tracks.specs.declared.demand.Demand.{Demand}
use Rattle.papergrid_tracks.specs.Problem.{Problem}
use Rattle.papergrid_tracks.specs.Ranges.{IsInTable, end_of}
use Rattle.papergrid_tracks.specs.TrackBoundaries.{AreLowest, net_minimum}
use Rattle.papergrid_tracks.specs.CriticalPath.{IsCriticalPath, IsFirstTight, IsPathBack}
use Rattle.papergrid_tracks.specs.ForProofs.Followed.{with_earlier}
use Rattle.papergrid_tracks.proofs.LowestLemmas.{AreLowest-lowest_position, lowest_position, lowest_position-monotone, lowest_position-rises, one-lowest}
use Rattle.papergrid_tracks.proofs.CriticalPathLemmas.{critical_path, tight_cell, tight_cell-none, tight_cell-is_tight, tight_cells}
use Rattle.papergrid_tracks.proofs.TightLemmas.{find-agree}

module _ (problem : Problem) (table : All (IsInTable problem.count) problem.demands) where
  abbrev met : ℕ → ℕ → List Demand
  met steps i = tight_cells (net_minimum problem.line) problem.demands steps i

  abbrev found_at : ℕ → Option Demand
  found_at i = tight_cell (net_minimum problem.line) problem.demands i

  abbrev low : ℕ → ℕ
  low = lowest_position (net_minimum problem.line) problem.demands

  -- the cell that is found at a boundary ends there, and starts before
  ends-there : (i : ℕ) (d : Demand) → found_at (suc i) ≡ Some d → end_of d ≡ suc i
  ends-there i d e = (tight_cell-is_tight (net_minimum problem.line) problem.demands problem.count table i d e).ends

  starts-before : (i : ℕ) (d : Demand) → found_at (suc i) ≡ Some d → d.start ≤ i
  starts-before i d e =
      let listed = (tight_cell-is_tight (net_minimum problem.line) problem.demands problem.count table i d e).listed in
      let one : 1 ≤ d.span = (All-contains (IsInTable problem.count) problem.demands d table listed).covers_one in
      let ends : d.start + d.span ≡ suc i = ends-there i d e in
      omega arith

  -- ---- what is met going back is such a way

  same-back : (i j : ℕ) (cells : List Demand) → i ≤ j → low i ≡ low j → IsPathBack problem low i cells → IsPathBack problem low j cells
  same-back i j [] le same path = sym same ∙ path
  same-back i j (d ∷ earlier) le same path = let before : end_of d ≤ i = path.0 in (omega arith, path.1 ∙ same, path.2, path.3)

  path-found : (i : ℕ) (earlier : ℕ → List Demand) → low i < low (suc i) → ((j : ℕ) → j ≤ i → IsPathBack problem low j (earlier j)) →
      (found : Option Demand) → found_at (suc i) ≡ found → IsPathBack problem low (suc i) (with_earlier found earlier)
  path-found i earlier past ways None e = absurd (tight_cell-none (net_minimum problem.line) problem.demands problem.count table i past e)
  path-found i earlier past ways (Some d) e = grind (arith, ends-there, starts-before)

  path-met : (steps i : ℕ) → i ≤ steps → IsPathBack problem low i (met steps i)
  path-met zero zero le = refl
  path-met zero (suc i) le = absurd (omega arith)
  path-met (suc steps) zero le = path-met steps zero (omega arith)
  path-met (suc steps) (suc i) le =
      let e : suc i - 1 ≡ i = omega arith in
      let rises : low i ≤ low (suc i) = lowest_position-rises (net_minimum problem.line) problem.demands i in
      elim (cases_eq (low (suc i)) (low i)) [
        | inl same ↦ rw (e, eq-eqb (low (suc i)) (low i) same) (same-back i (suc i) (met steps i) (omega arith) (sym same) (path-met steps i (omega arith)))
        | inr ne ↦
            let small : i ≤ steps = omega arith in
            rw (e, ne_eqb (low (suc i)) (low i) ne)
            (path-found i (met steps) (omega arith) (λ j l. path-met steps j (omega arith)) (found_at (suc i)) refl)
      ]

  -- ---- and there is no other

  not-past : (i : ℕ) (d : Demand) (earlier : List Demand) → low (suc i) ≡ low i → IsPathBack problem low (suc i) (d ∷ earlier) → end_of d ≤ i
  not-past i d earlier same path = grind (arith, cases_eq)

  back-same : (i : ℕ) (cells : List Demand) → low (suc i) ≡ low i → IsPathBack problem low (suc i) cells → IsPathBack problem low i cells
  back-same i [] same path = sym same ∙ path
  back-same i (d ∷ earlier) same path = (not-past i d earlier same path, path.1 ∙ same, path.2, path.3)

  ends-past : (i : ℕ) (d : Demand) (earlier : List Demand) → low i < low (suc i) → IsPathBack problem low (suc i) (d ∷ earlier) → found_at (suc i) ≡ Some d
  ends-past i d earlier past path = grind (arith, cases_eq, lowest_position-monotone)

  nothing-at_zero : (d : Demand) (earlier : List Demand) → IsPathBack problem low 0 (d ∷ earlier) → ⊥
  nothing-at_zero d earlier path = grind (arith, lowest_position-monotone)

  past-met : (steps i : ℕ) → ((j : ℕ) (cells : List Demand) → j ≤ i → IsPathBack problem low j cells → cells ≡ met steps j) →
      (cells : List Demand) → low i < low (suc i) → IsPathBack problem low (suc i) cells → cells ≡ with_earlier (found_at (suc i)) (met steps)
  past-met steps i only [] past path = let none : low (suc i) ≡ 0 = path in absurd (omega arith)
  past-met steps i only (d ∷ earlier) past path = grind (arith, ends-past, starts-before)

  only-met : (steps i : ℕ) (cells : List Demand) → i ≤ steps → IsPathBack problem low i cells → cells ≡ met steps i
  only-met zero zero [] le path = refl
  only-met zero zero (d ∷ earlier) le path = absurd (nothing-at_zero d earlier path)
  only-met zero (suc i) cells le path = absurd (omega arith)
  only-met (suc steps) zero cells le path = only-met steps zero cells (omega arith) path
  only-met (suc steps) (suc i) cells le path =
      let e : suc i - 1 ≡ i = omega arith in
      let rises : low i ≤ low (suc i) = lowest_position-rises (net_minimum problem.line) problem.demands i in
      elim (cases_eq (low (suc i)) (low i)) [
        | inl same ↦ rw (e, eq-eqb (low (suc i)) (low i) same) (only-met steps i cells (omega arith) (back-same i cells same path))
        | inr ne ↦
            rw (e, ne_eqb (low (suc i)) (low i) ne) (past-met steps i (λ j cells l. only-met steps j cells (omega arith)) cells (omega arith) path)
      ]

  path_back-is : (cells : List Demand) → IsPathBack problem low problem.count (reverse cells) ↔ (cells ≡ critical_path problem)
  path_back-is cells = grind (arith, reverse-reverse, only-met, path-met)

  -- ---- and it is so by whatever positions are the lowest

  module _ (f g : ℕ → ℕ) (same : (i : ℕ) → i ≤ problem.count → f i ≡ g i) where
    first-same : (d : Demand) → end_of d ≤ problem.count → IsFirstTight problem f d → IsFirstTight problem g d
    first-same d le is = grind (arith, find-agree)

    path-same : (i : ℕ) (cells : List Demand) → i ≤ problem.count → IsPathBack problem f i cells → IsPathBack problem g i cells
    path-same i [] le path = sym (same i le) ∙ path
    path-same i (d ∷ earlier) le path =
        let before : end_of d ≤ i = path.0 in
        let within : end_of d ≤ problem.count = omega arith in
        (before, sym (same (end_of d) within) ∙ path.1 ∙ same i le, first-same d within path.2, path-same d.start earlier (omega arith) path.3)

  pub critical_path-is : (cells : List Demand) → IsCriticalPath problem cells ↔ (cells ≡ critical_path problem)
  critical_path-is cells = (
    λ is. (path_back-is cells).0
        (path-same is.lowest low (one-lowest (net_minimum problem.line) problem.count problem.demands is.lowest low is.are_lowest lowest-low) problem.count (reverse cells) (omega arith) is.path),
    λ e. record { lowest = low; are_lowest = lowest-low; path = (path_back-is cells).1 e },
  )
    where
      lowest-low : AreLowest (net_minimum problem.line) problem.count problem.demands low
      lowest-low = AreLowest-lowest_position (net_minimum problem.line) problem.demands problem.count table
