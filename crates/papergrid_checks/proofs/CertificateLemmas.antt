-- When widths, or heights, are certified.
use Rattle.std.proofs.Common.{◌≡◌, ◌↔◌, ℕ, Bool, false, inl, inr, List, IsTrue, map, subst, sym}
use Rattle.std.proofs.lemmas.Bool.{false≢true}
use Rattle.papergrid_values.specs.declared.position.Position.{Position}
use Rattle.papergrid_values.specs.declared.direction.Direction.{Direction}
use Rattle.papergrid_tracks.proofs.BySizing.{AreSizes}
use Rattle.papergrid_tracks.specs.Answers.{AreCertifying, NoneCertify}
use Rattle.papergrid_tracks.specs.Certificates.{certificate_cells_of}
use Rattle.papergrid_tracks.specs.Fits.{IsCertificate}
use Rattle.papergrid_tracks.specs.Problem.{Problem}
use Rattle.papergrid_tracks.specs.Ranges.{IsLaminar}
use Rattle.papergrid_walk.specs.Cells.{problem_of}
use Rattle.papergrid_maps.specs.Grids.{Grid}
use Rattle.papergrid_layout.specs.Certificates.{IsChecked}
use Rattle.papergrid_checks.proofs.RowLemmas.{one_told}

-- cells of the certificate are accepted, and are chosen where ranges are nested or disjoint
accepted_where : (problem : Problem) (sizes : List ℕ) (places : List Position) (answer : Bool)
    → AreSizes problem sizes → AreCertifying problem places → IsChecked problem sizes places answer → IsTrue answer ↔ IsLaminar problem.demands
accepted_where problem sizes places answer are chosen checked = (
  λ _. chosen.laminar,
  λ _. checked.exact.1 (record {
    none_out = chosen.none_out;
    fits = are.fits;
    cells = certificate_cells_of problem;
    at_positions = sym chosen.exact;
    certificate = subst (λ xs. IsCertificate problem xs (certificate_cells_of problem)) (sym are.exact) chosen.certificate;
  }),
)

none_where : (problem : Problem) → NoneCertify problem → IsTrue false ↔ IsLaminar problem.demands
none_where problem none =
    let cross = none.not_laminar in (
      λ t. absurd (false≢true t),
      λ apart. absurd (elim (apart cross.one cross.other cross.are_visible.0 cross.are_visible.1 cross.are_long.0 cross.are_long.1) [
        | inl nested ↦ cross.not_nested nested
        | inr disjoint ↦ cross.not_disjoint disjoint
      ]),
    )

module _ {A B : Type 0} (grid : Grid) (v : A → B) (f : B → ℕ × ℕ) (columns : ℕ) (rows : List (List B)) (direction : Direction) where
  abbrev Told : (Problem → Type 0) → Type 0
  Told holds = (cells : List (List A)) × (map (map v) cells ≡ rows) × holds (problem_of grid (λ x. f (v x)) columns cells direction)

  of_rows : (holds : Problem → Type 0) → Told holds → holds (problem_of grid f columns rows direction)
  of_rows holds told = subst holds (one_told grid v f columns rows told.0 told.1 direction) told.2

  -- the same of what three walks over the records told
  pub certified_told : (sizes : List ℕ) (places : List Position) (answer : Bool)
      → Told (λ problem. AreSizes problem sizes) → Told (λ problem. AreCertifying problem places) → Told (λ problem. IsChecked problem sizes places answer)
      → IsTrue answer ↔ IsLaminar (problem_of grid f columns rows direction).demands
  certified_told sizes places answer are chosen checked =
      accepted_where (problem_of grid f columns rows direction) sizes places answer (of_rows (λ problem. AreSizes problem sizes) are)
      (of_rows (λ problem. AreCertifying problem places) chosen) (of_rows (λ problem. IsChecked problem sizes places answer) checked)

  pub none_told : Told NoneCertify → IsTrue false ↔ IsLaminar (problem_of grid f columns rows direction).demands
  none_told none = none_where (problem_of grid f columns rows direction) (of_rows NoneCertify none)
