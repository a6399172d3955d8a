-- What holds of the sizes along a direction.
use Rattle.std.proofs.Common.{◌≡◌, ℕ, ◌<◌, ◌≤◌, List, [], ◌∷◌, length, get_or, arith, refl, sym, subst, le-ltb}
use Rattle.std.specs.Prelude.{All, Contains, None}
use Rattle.std.specs.List.{AllByRecursion}
use Rattle.std.proofs.lemmas.Bool.{cases_lt}
use Rattle.std.proofs.lemmas.List.Elements.{All-contains, All-weaker, All-from_recursion, recursion_from_All}
use Rattle.papergrid_tracks.proofs.BySizing.{AreSizes, AreSizesTooLarge}
use Rattle.papergrid_tracks.specs.declared.demand.Demand.{Demand}
use Rattle.papergrid_tracks.specs.Problem.{Problem, total_of}
use Rattle.papergrid_tracks.specs.Ranges.{IsInTable, IsLaminar, end_of, first_out}
use Rattle.papergrid_tracks.specs.Fits.{Fits, IsLeast, IsTooLarge, IsCertificate, top_minimum}
use Rattle.papergrid_tracks.specs.Sizes.{base_sizes, by_span, sizes_of}
use Rattle.papergrid_tracks.specs.Certificates.{growing_cells_of, certificate_cells_of}
use Rattle.papergrid_tracks.proofs.FitBound.{Fits-sizes_after, bound-sizes_after}
use Rattle.papergrid_tracks.proofs.Orders.{TakesAll-by_span, IsLaminarInOrder-by_span}
use Rattle.papergrid_tracks.proofs.Certified.{certificate_of, IsLeast-sizes_after}
use Rattle.papergrid_tracks.proofs.GrowLemmas.{growing-all}

-- no cell of the table overflows it
pub first_out-none : (n : ℕ) (ds : List Demand) → AllByRecursion (IsInTable n) ds → first_out n ds ≡ None
first_out-none n [] table = refl
first_out-none n (d ∷ ds) table = rw (le-ltb n (end_of d) table.0.ends_within) (first_out-none n ds table.1)

module _ (problem : Problem) (table : All (IsInTable problem.count) problem.demands) where
  pub Fits-sizes_of : Fits problem (sizes_of problem)
  Fits-sizes_of = Fits-sizes_after problem.line problem.count problem.demands (by_span problem.count problem.demands) table (TakesAll-by_span problem.count problem.demands table)

  pub bound-sizes_of : (i : ℕ) → i < problem.count → get_or (sizes_of problem) i 0 ≤ top_minimum problem.demands i
  bound-sizes_of = bound-sizes_after problem.line problem.count problem.demands (by_span problem.count problem.demands) table (TakesAll-by_span problem.count problem.demands table)

  pub IsCertificate-certificate_cells_of : IsLaminar problem.demands → IsCertificate problem (sizes_of problem) (certificate_cells_of problem)
  IsCertificate-certificate_cells_of disjoint =
      certificate_of problem.line problem.count problem.demands (by_span problem.count problem.demands) table (TakesAll-by_span problem.count problem.demands table)
      (IsLaminarInOrder-by_span problem.count problem.demands disjoint)

  pub IsLeast-sizes_of : IsLaminar problem.demands → IsLeast problem (sizes_of problem)
  IsLeast-sizes_of disjoint =
      IsLeast-sizes_after problem.line problem.count problem.demands (by_span problem.count problem.demands) table (TakesAll-by_span problem.count problem.demands table)
      (IsLaminarInOrder-by_span problem.count problem.demands disjoint)

  -- no table was refused that another choice of sizes could have held
  pub others_too_large-sizes_of : IsLaminar problem.demands → IsTooLarge problem (sizes_of problem) →
      (other : List ℕ) → Fits problem other → IsTooLarge problem other
  others_too_large-sizes_of disjoint large other fits = (omega (arith, (IsLeast-sizes_of disjoint).least other fits))

  -- the cells that are taken are cells of the table
  pub table-by_span : All (IsInTable problem.count) (by_span problem.count problem.demands)
  table-by_span =
      All-weaker (Contains problem.demands) (IsInTable problem.count) (λ d m. All-contains (IsInTable problem.count) problem.demands d table m) (by_span problem.count problem.demands) (TakesAll-by_span problem.count problem.demands table).cells

  -- and so are those that grow
  pub table-growing : All (IsInTable problem.count) (growing_cells_of problem)
  table-growing =
      All-from_recursion (IsInTable problem.count) (growing_cells_of problem)
      (growing-all (IsInTable problem.count) problem.line (base_sizes problem.count problem.demands) (by_span problem.count problem.demands) (recursion_from_All (IsInTable problem.count) (by_span problem.count problem.demands) table-by_span))

  -- ---- the answers

  none_out : first_out problem.count problem.demands ≡ None
  none_out = first_out-none problem.count problem.demands (recursion_from_All (IsInTable problem.count) problem.demands table)

  pub AreSizes-sizes_of : (sizes : List ℕ) → sizes ≡ sizes_of problem → total_of problem (sizes_of problem) < 18446744073709551616 →
      AreSizes problem sizes
  AreSizes-sizes_of sizes e small = subst (AreSizes problem) (sym e) record {
    table = table;
    none_out = none_out;
    exact = refl;
    total = small;
    fits = Fits-sizes_of;
    bound = λ i l. bound-sizes_of i (let many : length (sizes_of problem) ≡ problem.count = Fits-sizes_of.one_each in omega arith);
    least = IsLeast-sizes_of;
  }

  pub AreSizesTooLarge-sizes_of : (total_of problem (sizes_of problem) < 18446744073709551616 → ⊥) → AreSizesTooLarge problem
  AreSizesTooLarge-sizes_of not_small = grind (arith, cases_lt, none_out, others_too_large-sizes_of)
