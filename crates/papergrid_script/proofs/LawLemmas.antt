-- Each table has an estimate, and no other.
use Rattle.std.proofs.Common.{◌≡◌, ◌⊎◌, ℕ, ◌<◌, ◌≤◌, ◌^◌, Bool, true, false, map, refl, sym, subst, arith, inl, inr, rules}
use Rattle.std.specs.Prelude.{All, Option, Some, None, if◌then◌else◌}
use Rattle.std.proofs.lemmas.List.Elements.{All-map}
use Rattle.papergrid_values.specs.declared.per_direction.PerDirection.{PerDirection}
use Rattle.papergrid_values.specs.declared.position.Position.{Position}
use Rattle.papergrid_tracks.specs.declared.demand.Demand.{Demand}
use Rattle.papergrid_values.specs.declared.direction.Direction.{Direction}
use Rattle.papergrid_values.specs.declared.direction.Direction.TheVariants.{Columns, Rows}
use Rattle.papergrid_tracks.specs.Certificates.{certificate_cells_of}
use Rattle.papergrid_tracks.proofs.LaminarLemmas.{is_laminar}
use Rattle.papergrid_tracks.specs.Problem.{Problem, total_of}
use Rattle.papergrid_tracks.specs.Ranges.{IsInTable, first_out, position_of}
use Rattle.papergrid_tracks.specs.Sizes.{sizes_of}
use Rattle.papergrid_tracks.proofs.LaminarLemmas.{Decides-is_laminar, SomeCross-from_test}
use Rattle.papergrid_tracks.proofs.OutLemmas as out_lemmas
use Rattle.papergrid_tracks.proofs.Theorems.{AreSizes-sizes_of, Fits-sizes_of, IsCertificate-certificate_cells_of, AreSizesTooLarge-sizes_of}
use Rattle.papergrid_tracks.proofs.LeastLemmas.{AreLeastSizes-least_of, AreCriticalPath-critical_path, fits-least, AreLeastTooLarge-least_of}
use Rattle.papergrid_walk.specs.Cells.{demand_by, problem_of, visible_cells}
use Rattle.papergrid_maps.specs.Grids.{Grid}
use Rattle.papergrid_layout.specs.Answers.{first_out_of_table}
use Rattle.papergrid_layout.proofs.Told.{certificate_by_shares}
use Rattle.papergrid_layout.proofs.PairLemmas.{none_overflows}
use Rattle.papergrid_tracks.specs.declared.sizing.Sizing.{Sizing}
use Rattle.papergrid_tracks.specs.declared.sizing.Sizing.TheVariants.{ByShares, Least}
use Rattle.papergrid_script.specs.Estimates.{Estimate, IsEstimate, IsEstimateBy, OutOfTable, TooLarge, Sized}
use Rattle.papergrid_script.proofs.Estimated.{estimate_by, estimate_of, solution_by, unless_large, unless_out}
use Rattle.papergrid_walk.specs.Measures.{text_measure}
use Rattle.papergrid_script.specs.Scripts.{Table}
use Rattle.papergrid_tracks.specs.Sizings.{AreSizesBy, AreTooLargeBy, IsCertificateBy}
use Rattle.papergrid_layout.specs.Certificates.{IsSolutionBy, Solution}
use Rattle.papergrid_script.proofs.EstimateLemmas.{estimate-only, solutions_by, total_by}
use Rattle.papergrid_config.proofs.Made.{grid_of}
use Rattle.papergrid_config.proofs.SettingGridLemmas.{grid_covers, is-grid, one-grid}

-- ---- along a direction

module _ (problem : Problem) (table : All (IsInTable problem.count) problem.demands) (inside : first_out problem.count problem.demands ≡ None) where
  sizes_are : (sizing : Sizing) → (solution_by sizing problem).total < 2 ^ 64 → AreSizesBy sizing problem (solution_by sizing problem).sizes
  sizes_are ByShares small = AreSizes-sizes_of problem table (sizes_of problem) refl small
  sizes_are Least small = AreLeastSizes-least_of problem table inside small

  has_none : (sizing : Sizing) → 2 ^ 64 ≤ (solution_by sizing problem).total → AreTooLargeBy sizing problem
  has_none ByShares past = AreSizesTooLarge-sizes_of problem table (λ small. absurd (omega arith))
  has_none Least past = AreLeastTooLarge-least_of problem table inside past

  shares_certificate : total_of problem (sizes_of problem) < 2 ^ 64 → IsCertificateBy ByShares problem (certificate_by_shares problem)
  shares_certificate small = grind (arith, by_test, is_laminar, Decides-is_laminar, IsCertificate-certificate_cells_of, SomeCross-from_test)
    where
      by_test : (test : Bool) → is_laminar problem.demands ≡ test → IsCertificateBy ByShares problem (if test then Some (map position_of (certificate_cells_of problem)) else None)
      by_test true t =
          let apart = (Decides-is_laminar problem.demands).0 t in
          record { none_out = inside; total = small; laminar = apart; exact = refl; certificate = IsCertificate-certificate_cells_of problem table apart }
      by_test false f = record { none_out = inside; total = small; not_laminar = SomeCross-from_test problem.demands f }

  is_certificate : (sizing : Sizing) → (solution_by sizing problem).total < 2 ^ 64 → IsCertificateBy sizing problem (solution_by sizing problem).certificate
  is_certificate ByShares small = shares_certificate small
  is_certificate Least small = AreCriticalPath-critical_path problem table inside (fits-least problem table small)

-- where the least sizes are too large, so are those by shares
shares-past : (problem : Problem) → AreTooLargeBy Least problem → AreTooLargeBy ByShares problem
shares-past problem none = grind (arith, Fits-sizes_of, AreSizesTooLarge-sizes_of)

-- ---- the three answers

estimate_cases : (o : Option Position) (found : PerDirection Solution) (e : Estimate) → unless_out o (unless_large found) ≡ e
    → ((position : Position) × (o ≡ Some position) × (e ≡ OutOfTable position))
    ⊎ (((o ≡ None) × (e ≡ TooLarge) × ((2 ^ 64 ≤ found.columns.total) ⊎ (2 ^ 64 ≤ found.rows.total)))
    ⊎ ((o ≡ None) × (e ≡ Sized found) × (found.columns.total < 2 ^ 64) × (found.rows.total < 2 ^ 64)))
estimate_cases (Some position) found e is = inl (position, refl, sym is)
estimate_cases None found e is = grind arith

-- what the sizes of a table along a direction are found for
abbrev problem_of_table : Table → Direction → Problem
problem_of_table table = problem_of (grid_of table.settings) text_measure table.columns table.rows

module _ (table : Table) where
  abbrev grid : Grid
  grid = grid_of table.settings

  abbrev first : Option Position
  first = first_out_of_table grid text_measure table.columns table.rows

  in_table : (direction : Direction) → first_out (problem_of_table table direction).count (problem_of_table table direction).demands ≡ None
      → All (IsInTable (problem_of_table table direction).count) (problem_of_table table direction).demands
  in_table direction inside =
      out_lemmas.none_out (problem_of_table table direction).count (problem_of_table table direction).demands inside
      (All-map (λ (d : Demand). 1 ≤ d.span) (demand_by direction grid text_measure) (visible_cells grid table.rows) (λ k x l. grid_covers table.settings grid (is-grid table.settings) direction _))

  module _ (sizing : Sizing) where
    abbrev IsBy : Estimate → Type 0
    IsBy = IsEstimateBy grid text_measure table.columns table.rows sizing

    abbrev along : Direction → Solution
    along direction = solution_by sizing (problem_of_table table direction)

    abbrev total : Direction → ℕ
    total direction = (along direction).total

    abbrev solutions : PerDirection Solution
    solutions = solutions_by sizing (problem_of_table table Columns) (problem_of_table table Rows)

    cases : (e : Estimate) → estimate_of sizing table ≡ e
        → ((position : Position) × (first ≡ Some position) × (e ≡ OutOfTable position))
        ⊎ (((first ≡ None) × (e ≡ TooLarge) × ((2 ^ 64 ≤ total Columns) ⊎ (2 ^ 64 ≤ total Rows)))
        ⊎ ((first ≡ None) × (e ≡ Sized solutions) × (total Columns < 2 ^ 64) × (total Rows < 2 ^ 64)))
    unfolding estimate_by
    cases e is = estimate_cases first solutions e is

    -- along a direction
    solution_is : (direction : Direction) → first_out (problem_of_table table direction).count (problem_of_table table direction).demands ≡ None → total direction < 2 ^ 64
        → IsSolutionBy sizing (problem_of_table table direction) (along direction)
    solution_is direction inside small = search (rules, sizes_are, in_table, total_by, is_certificate)

    are_sized : first ≡ None → total Columns < 2 ^ 64 → total Rows < 2 ^ 64 → IsBy (Sized solutions)
    are_sized none narrow low =
        let inside = (none_overflows grid text_measure table.columns table.rows).0 none in
        record { widths = solution_is Columns inside.0 narrow; heights = solution_is Rows inside.1 low }

    are_large : first ≡ None → (2 ^ 64 ≤ total Columns) ⊎ (2 ^ 64 ≤ total Rows) → IsBy TooLarge
    are_large none past = grind (arith, none_overflows, has_none, in_table)

    -- what is computed is the estimate
    computed : IsBy (estimate_of sizing table)
    computed = grind (arith, cases (estimate_of sizing table) refl, estimate_of, are_large, are_sized)

    pub estimate-computed : IsEstimate sizing table (estimate_of sizing table)
    estimate-computed = (grid, is-grid table.settings, computed)

    -- and no other is
    pub only-estimate : (e : Estimate) → IsEstimate sizing table e → e ≡ estimate_of sizing table
    only-estimate e is =
        let so = subst (λ g. IsEstimateBy g text_measure table.columns table.rows sizing e) (one-grid table.settings is.0 grid is.1 (is-grid table.settings)) is.2 in
        estimate-only grid text_measure table.columns table.rows sizing e so

  -- where the least sizes are refused as too large, so are those by shares
  pub least_too_large : IsEstimate Least table TooLarge → IsEstimate ByShares table TooLarge
  least_too_large is = (
    is.0,
    is.1,
    (
      is.2.0,
      elim is.2.1 [
        | inl wide ↦ inl (shares-past (problem_of is.0 text_measure table.columns table.rows Columns) wide)
        | inr high ↦ inr (shares-past (problem_of is.0 text_measure table.columns table.rows Rows) high)
      ],
    ),
  )
