-- What certificates and checkers say of the rows yielded.
use Rattle.std.specs.Prelude.{◌≡◌, ◌↔◌, ℕ, Bool, IsTrue, List, Option, Result, Vec}
use Rattle.papergrid_values.specs.declared.position.Position.{Position}
use Rattle.papergrid_values.specs.declared.per_direction.PerDirection.{PerDirection}
use Rattle.papergrid_tracks.specs.declared.error.LayoutError.{LayoutError}
use Rattle.papergrid_tracks.specs.declared.solution.Solved.{Solved}
use Rattle.papergrid_tracks.specs.Answers.{IsAccepted}
use Rattle.papergrid_tracks.specs.Fits.{IsLeast}
use Rattle.papergrid_tracks.specs.Problem.{Problem, total_of}
use Rattle.papergrid_tracks.specs.LeastAnswers.{AreCriticalPath}
use Rattle.papergrid_maps.specs.Grids.{Grid}
use Rattle.papergrid_layout.specs.Answers.{HoldAlong}
use Rattle.papergrid_tracks.specs.Sizings.{Answers, AreSizesBy, IsCertificateBy, positions_of}
use Rattle.papergrid_tracks.specs.declared.sizing.Sizing.{Sizing}
use Rattle.papergrid_tracks.specs.declared.sizing.Sizing.TheVariants.{Least}

-- whether these sizes, with these positions of cells that certify them, are accepted; those that are, are least
pub record IsChecked (problem : Problem) (sizes : List ℕ) (positions : List Position) (answer : Bool) : Type 0 where
  pub exact : IsTrue answer ↔ IsAccepted problem sizes positions
  pub least : IsTrue answer → IsLeast problem sizes

-- the positions of the cells that certify least sizes, or why there are none
abbrev pub IsLeastCertified : {Z : Type 0} → Problem → Result (Vec Position Z) LayoutError → Type 0
IsLeastCertified {Z} problem result = Answers Least (λ p (positions : Vec Position Z). AreCriticalPath p positions.items) problem result

-- what is found along a direction: the sizes, their total with all lines, and the positions of the cells that certify
-- them, if there are such
pub record Solution : Type 0 where
  pub sizes : List ℕ
  pub total : ℕ
  pub certificate : Option (List Position)

-- what a solver has found
abbrev pub solution_of : Solved → Solution
solution_of solved = record { sizes = solved.sizes.items; total = solved.total; certificate = positions_of solved.certificate }

-- the same along both directions
abbrev pub solutions_of : PerDirection Solved → PerDirection Solution
solutions_of found = record { columns = solution_of found.columns; rows = solution_of found.rows }

-- exactly the sizes that are chosen so, with what holds of them, their total with all lines, and what certifies them
pub record IsSolutionBy (sizing : Sizing) (problem : Problem) (solution : Solution) : Type 0 where
  pub sizes : AreSizesBy sizing problem solution.sizes
  pub total : solution.total ≡ total_of problem solution.sizes
  pub certificate : IsCertificateBy sizing problem solution.certificate

-- the same of what a solver has found
abbrev pub IsCertifiedBy : Sizing → Problem → Solved → Type 0
IsCertifiedBy sizing problem solved = IsSolutionBy sizing problem (solution_of solved)

-- the same along both directions, of rows of cells that are measured so
abbrev pub AreSolutionsBy : {C : Type 0} → Grid → (C → ℕ × ℕ) → ℕ → List (List C) → Sizing → PerDirection Solution → Type 0
AreSolutionsBy grid measure columns cells sizing found = HoldAlong grid measure columns cells (IsSolutionBy sizing) found.columns found.rows
