-- What an estimate is, by the answers of a dimension, and what follows from it.
use Rattle.std.proofs.Common.{◌≡◌, ◌⊎◌, ◌∙◌, ℕ, ◌<◌, ◌≤◌, ◌^◌, Bool, true, false, List, ◌||◌, map, refl, ap, sym, subst, arith, inl, inr, rules}
use Rattle.std.specs.Prelude.{Option, Some, None, Result, Ok, Err}
use Rattle.papergrid_values.specs.declared.per_direction.PerDirection.{PerDirection}
use Rattle.papergrid_values.specs.declared.position.Position.{Position}
use Rattle.papergrid_values.specs.declared.direction.Direction.TheVariants.{Columns, Rows}
use Rattle.papergrid_tracks.specs.declared.error.LayoutError.{LayoutError}
use Rattle.papergrid_tracks.specs.declared.error.LayoutError.TheVariants as layout_errors
use Rattle.papergrid_tracks.specs.declared.solution.Solved.{Solved}
use Rattle.papergrid_tracks.specs.Problem.{Problem, total_of}
use Rattle.papergrid_tracks.specs.Ranges.{first_out}
use Rattle.papergrid_tracks.proofs.LeastLemmas.{exact-least, exact-critical_path, past-least}
use Rattle.papergrid_walk.specs.Cells.{problem_of}
use Rattle.papergrid_maps.specs.Grids.{Grid}
use Rattle.papergrid_layout.specs.Answers.{AnswersBoth, UnlessMemory, first_out_of_table}
use Rattle.papergrid_tracks.specs.Sizings.{AreSizesBy, AreTooLargeBy, IsCertificateBy}
use Rattle.papergrid_layout.specs.Certificates.{AreSolutionsBy, IsCertifiedBy, IsSolutionBy, Solution}
use Rattle.papergrid_layout.proofs.Told.{first_told, problem_told, certificate_is}
use Rattle.papergrid_layout.proofs.PairLemmas.{none_overflows}
use Rattle.papergrid_tracks.specs.declared.sizing.Sizing.{Sizing}
use Rattle.papergrid_tracks.specs.declared.sizing.Sizing.TheVariants.{ByShares, Least}
use Rattle.papergrid_script.specs.Estimates.{Estimate, IsEstimateBy, OutOfTable, TooLarge, Sized}
use Rattle.papergrid_script.proofs.Estimated.{unless_large, unless_out, solution_by, estimate_by}
use Rattle.papergrid_script.specs.ForProofs.Sized.{GivesEstimate}

-- ---- tests and options

or_true : (a : Bool) → a || true ≡ true
or_true true = refl
or_true false = refl

-- ---- totals

pub large : (found : PerDirection Solution) → (2 ^ 64 ≤ found.columns.total) ⊎ (2 ^ 64 ≤ found.rows.total) → unless_large found ≡ TooLarge
large found past = grind arith

pub sized : (found : PerDirection Solution) → found.columns.total < 2 ^ 64 → found.rows.total < 2 ^ 64 → unless_large found ≡ Sized found
sized found narrow low = grind arith

-- ---- along a direction

-- the total is that of the sizes
pub total_by : (sizing : Sizing) (problem : Problem) → (solution_by sizing problem).total ≡ total_of problem (solution_by sizing problem).sizes
total_by ByShares problem = refl
total_by Least problem = refl

-- what holds of chosen sizes, however they are chosen
record AreFound (sizing : Sizing) (problem : Problem) (sizes : List ℕ) : Type 0 where
  none_out : first_out problem.count problem.demands ≡ None
  exact : sizes ≡ (solution_by sizing problem).sizes
  total : total_of problem sizes < 2 ^ 64

are_found : (sizing : Sizing) (problem : Problem) (sizes : List ℕ) → AreSizesBy sizing problem sizes → AreFound sizing problem sizes
are_found ByShares problem sizes are = record { none_out = are.none_out; exact = are.exact; total = are.total }
are_found Least problem sizes are = record { none_out = are.none_out; exact = exact-least problem sizes are; total = are.total }

none_large : (sizing : Sizing) (problem : Problem) → AreTooLargeBy sizing problem → 2 ^ 64 ≤ (solution_by sizing problem).total
none_large ByShares problem none = none.too_large _ refl
none_large Least problem none = past-least problem none

found_certificate : (sizing : Sizing) (problem : Problem) (found : Option (List Position)) → IsCertificateBy sizing problem found → found ≡ (solution_by sizing problem).certificate
found_certificate ByShares problem found is = certificate_is problem found is
found_certificate Least problem None is = absurd is
found_certificate Least problem (Some positions) critical_path = ap Some (exact-critical_path problem positions critical_path)

-- what is found is what is chosen, with its total and certificate
found_solution : (sizing : Sizing) (problem : Problem) (found : Solution) → IsSolutionBy sizing problem found → found ≡ solution_by sizing problem
found_solution sizing problem found is =
    let sizes = (are_found sizing problem found.sizes is.sizes).exact in
    let total = is.total ∙ ap (total_of problem) sizes ∙ sym (total_by sizing problem) in
    let certificate = found_certificate sizing problem found.certificate is.certificate in
    λ i. record { sizes = sizes i; total = total i; certificate = certificate i }

-- both directions
abbrev pub solutions_by : Sizing → Problem → Problem → PerDirection Solution
solutions_by sizing across down = record { columns = solution_by sizing across; rows = solution_by sizing down }

module _ {C : Type 0} (grid : Grid) (measure : C → ℕ × ℕ) (columns : ℕ) (cells : List (List C)) where
  module _ (sizing : Sizing) where
    -- ---- the answers

    abbrev pub across : Problem
    across = problem_of grid measure columns cells Columns

    abbrev pub down : Problem
    down = problem_of grid measure columns cells Rows

    pub estimate_out : (position : Position) → first_out_of_table grid measure columns cells ≡ Some position → estimate_by sizing grid measure columns cells ≡ OutOfTable position
    unfolding estimate_by
    estimate_out position first = ap (λ o. unless_out o (unless_large (solutions_by sizing across down))) first

    estimate_inside : first_out_of_table grid measure columns cells ≡ None → estimate_by sizing grid measure columns cells ≡ unless_large (solutions_by sizing across down)
    unfolding estimate_by
    estimate_inside none = ap (λ o. unless_out o (unless_large (solutions_by sizing across down))) none

    pub estimate_large : first_out_of_table grid measure columns cells ≡ None → (2 ^ 64 ≤ (solution_by sizing across).total) ⊎ (2 ^ 64 ≤ (solution_by sizing down).total)
        → estimate_by sizing grid measure columns cells ≡ TooLarge
    estimate_large none past = estimate_inside none ∙ large (solutions_by sizing across down) past

    pub estimate_none : first_out_of_table grid measure columns cells ≡ None → AreTooLargeBy sizing across ⊎ AreTooLargeBy sizing down → estimate_by sizing grid measure columns cells ≡ TooLarge
    estimate_none none too_large = estimate_large none (elim too_large [ inl wide ↦ inl (none_large sizing across wide) | inr high ↦ inr (none_large sizing down high) ])

    -- what is found is what is estimated
    pub estimate_found : (found : PerDirection Solution) → AreSolutionsBy grid measure columns cells sizing found → estimate_by sizing grid measure columns cells ≡ Sized found
    estimate_found found are = search (rules, are_found, found_solution, unless_large, estimate_inside, none_overflows, sized)

    -- an estimate is the one that is computed
    pub estimate-only : (e : Estimate) → IsEstimateBy grid measure columns cells sizing e → e ≡ estimate_by sizing grid measure columns cells
    estimate-only (OutOfTable position) is = sym (estimate_out position is)
    estimate-only TooLarge is = sym (estimate_none is.0 is.1)
    estimate-only (Sized found) is = sym (estimate_found found is)

-- cells that are seen through a view
module _ {A B : Type 0} (grid : Grid) (v : A → B) (f : B → ℕ × ℕ) (columns : ℕ) (cells : List (List A)) (rows : List (List B)) (same : map (map v) cells ≡ rows) where
  pub estimate_told : (sizing : Sizing) (e : Estimate) → IsEstimateBy grid (λ x. f (v x)) columns cells sizing e → IsEstimateBy grid f columns rows sizing e
  estimate_told sizing (OutOfTable position) is = sym (first_told grid v f cells rows same columns) ∙ is
  estimate_told sizing TooLarge is = (
    sym (first_told grid v f cells rows same columns) ∙ is.0,
    elim is.1 [
      | inl wide ↦ inl (subst (AreTooLargeBy sizing) (problem_told grid v f cells rows same Columns columns) wide)
      | inr high ↦ inr (subst (AreTooLargeBy sizing) (problem_told grid v f cells rows same Rows columns) high)
    ],
  )
  estimate_told sizing (Sized found) is = record {
    widths = subst (λ p. IsSolutionBy sizing p found.columns) (problem_told grid v f cells rows same Columns columns) is.widths;
    heights = subst (λ p. IsSolutionBy sizing p found.rows) (problem_told grid v f cells rows same Rows columns) is.heights;
  }

-- ---- results

-- what is certified of the cells told, or why nothing is, is their estimate
pub estimated : {C : Type 0} (Tells : List (List C) → Type 0) (sizing : Sizing) (grid : Grid) (measure : C → ℕ × ℕ) (columns : ℕ) (result : Result (PerDirection Solved) LayoutError)
    → UnlessMemory result ((cells : List (List C)) × Tells cells × AnswersBoth grid measure columns cells sizing (IsCertifiedBy sizing) result)
    → GivesEstimate result (λ estimate. (cells : List (List C)) × Tells cells × IsEstimateBy grid measure columns cells sizing estimate)
estimated Tells sizing grid measure columns (Ok found) is = (is.0, is.1, record { widths = is.2.widths; heights = is.2.heights })
estimated Tells sizing grid measure columns (Err (layout_errors.OutOfTable position)) is = is
estimated Tells sizing grid measure columns (Err layout_errors.TooLarge) is = is
estimated Tells sizing grid measure columns (Err (layout_errors.Memory e)) is = tt

-- an estimate that is so is also what follows from it
pub gives_also : (result : Result (PerDirection Solved) LayoutError) (IsSo IsAlso : Estimate → Type 0) → ((e : Estimate) → IsSo e → IsAlso e) → GivesEstimate result IsSo → GivesEstimate result IsAlso
gives_also (Ok found) IsSo IsAlso follows so = follows _ so
gives_also (Err (layout_errors.OutOfTable position)) IsSo IsAlso follows so = follows _ so
gives_also (Err layout_errors.TooLarge) IsSo IsAlso follows so = follows _ so
gives_also (Err (layout_errors.Memory e)) IsSo IsAlso follows so = so
