-- What a certificate goes by.
use Rattle.std.proofs.Common.{◌≡◌, ◌<◌, false, List, arith, refl, sym, ap, ◌∙◌, inl, inr}
use Rattle.std.specs.Prelude.{All, Some, map}
use Rattle.std.proofs.lemmas.Bool.{cases_Bool}
use Rattle.std.proofs.lemmas.List.Elements.{recursion_from_All}
use Rattle.papergrid_values.specs.declared.position.Position.{Position}
use Rattle.papergrid_tracks.specs.Answers.{AreCertifying, NoneCertify}
use Rattle.papergrid_tracks.specs.Problem.{Problem, total_of}
use Rattle.papergrid_tracks.specs.Ranges.{IsInTable, position_of}
use Rattle.papergrid_tracks.specs.Sizes.{base_sizes, sizes_of, by_span}
use Rattle.papergrid_tracks.specs.Certificates.{certificate_cells_of, growing_cells_of}
use Rattle.papergrid_tracks.specs.ForProofs.LastCells.{AreExact, IsLaminarInOrder}
use Rattle.papergrid_tracks.specs.declared.demands.Demands.{Demands}
use Rattle.papergrid_tracks.specs.ForProofs.Demands.{AreGathered}
use Rattle.papergrid_tracks.proofs.Certified.{base-not_covered}
use Rattle.papergrid_tracks.proofs.GrowLemmas.{IsLaminarInOrder-growing}
use Rattle.papergrid_tracks.proofs.LaminarLemmas.{SomeCross-unless}
use Rattle.papergrid_tracks.proofs.LastLemmas.{IsLaminar-from_laminar}
use Rattle.papergrid_tracks.proofs.Orders.{IsLaminarInOrder-by_span, TakesAll-by_span}
use Rattle.papergrid_tracks.proofs.OutLemmas.{AreSizesTooLarge-large, out_kept}
use Rattle.papergrid_tracks.proofs.DemandLemmas.{exact_single-first}
use Rattle.papergrid_tracks.proofs.Theorems.{Fits-sizes_of, first_out-none, IsCertificate-certificate_cells_of}

module _ (problem : Problem) (table : All (IsInTable problem.count) problem.demands)
    (total : total_of problem (sizes_of problem) < 18446744073709551616) where
  pub AreChosen-from_laminar : (positions : List Position) → positions ≡ map position_of (certificate_cells_of problem) → IsLaminarInOrder (by_span problem.count problem.demands) →
      AreCertifying problem positions
  AreChosen-from_laminar positions e laminar =
      let disjoint = IsLaminar-from_laminar problem.count problem.demands table laminar in
      grind (arith, first_out-none, recursion_from_All, IsCertificate-certificate_cells_of)

  pub NoneCertify-unless_laminar : (IsLaminarInOrder (by_span problem.count problem.demands) → ⊥) → NoneCertify problem
  NoneCertify-unless_laminar none = record {
    none_out = first_out-none problem.count problem.demands (recursion_from_All (IsInTable problem.count) problem.demands table);
    total = total;
    not_laminar = SomeCross-unless problem.demands (λ disjoint. none (IsLaminarInOrder-by_span problem.count problem.demands disjoint));
  }

-- of laminar cells the growing ones are laminar
pub IsLaminarInOrder-growing_cells : (problem : Problem) → IsLaminarInOrder (by_span problem.count problem.demands) → IsLaminarInOrder (growing_cells_of problem)
IsLaminarInOrder-growing_cells problem laminar =
    IsLaminarInOrder-growing problem.line (base_sizes problem.count problem.demands) (by_span problem.count problem.demands) laminar

module _ (problem : Problem) (kept : Demands) (is : AreGathered problem.count kept problem.demands) (table : All (IsInTable problem.count) problem.demands)
    (total : total_of problem (sizes_of problem) < 18446744073709551616) where
  -- where there are sizes, no minimum size was large
  small-settled : kept.is_large ≡ false
  small-settled = elim (cases_Bool kept.is_large) [
    | inl large ↦
        let inside = sym (out_kept problem.count kept problem.demands is) ∙ first_out-none problem.count problem.demands (recursion_from_All (IsInTable problem.count) problem.demands table) in
        let past = (AreSizesTooLarge-large problem.count kept problem.demands is problem.line inside large).too_large _ refl in
        absurd (omega (arith, past, total))
    | inr small ↦ small
  ]

  -- what is kept by number is exact
  pub AreExact-settled : AreExact problem.demands (growing_cells_of problem) (sizes_of problem) kept.single_span.items
  AreExact-settled i l out some =
      let inside : i < problem.count = omega (arith, l, (Fits-sizes_of problem table).one_each) in
      exact_single-first i problem.demands (sizes_of problem)
      (base-not_covered problem.line problem.count problem.demands (by_span problem.count problem.demands) table (TakesAll-by_span problem.count problem.demands table) i inside out) some
      ∙ ap Some (sym (is.held.single_span small-settled i (omega (arith, inside))))
