-- What an answer says, by how the sizes are chosen.
use Rattle.std.specs.Prelude.{◌≡◌, ◌^◌, ◌<◌, ◌≤◌, ℕ, All, Bool, EachIndex, false, slice_index, true, List, Result, Ok, Err, Option, None, Some, option_map, Vec, ⊤}
use Rattle.std.specs.declared.alloc.Global.{Global}
use Rattle.papergrid_values.specs.declared.position.Position.{Position}
use Rattle.papergrid_tracks.specs.declared.error.LayoutError.{LayoutError}
use Rattle.papergrid_tracks.specs.declared.error.LayoutError.TheVariants.{OutOfTable, TooLarge, Memory}
use Rattle.papergrid_tracks.specs.declared.sizing.Sizing.{Sizing}
use Rattle.papergrid_tracks.specs.declared.sizing.Sizing.TheVariants.{ByShares, Least}
use Rattle.papergrid_tracks.specs.declared.solution.Solved.{Solved}
use Rattle.papergrid_tracks.specs.Answers.{AreCertifying, NoneCertify}
use Rattle.papergrid_tracks.specs.Fits.{Fits, IsLeast, IsTooLarge, top_minimum}
use Rattle.papergrid_tracks.specs.Least.{AreFurthestRight}
use Rattle.papergrid_tracks.specs.LeastAnswers.{AreCriticalPath}
use Rattle.papergrid_tracks.specs.Problem.{Problem, total_of}
use Rattle.papergrid_tracks.specs.Ranges.{IsInTable, IsLaminar, first_out}
use Rattle.papergrid_tracks.specs.Sizes.{sizes_of}

-- exactly the sizes by shares, or the least ones that are furthest right
abbrev pub AreExact : Sizing → Problem → List ℕ → Type 0
AreExact ByShares problem sizes = sizes ≡ sizes_of problem
AreExact Least problem sizes = AreFurthestRight problem sizes

-- where they are least: by shares where longer ranges are nested or disjoint
abbrev pub MustBeLeast : Sizing → Problem → Type 0
MustBeLeast ByShares problem = IsLaminar problem.demands
MustBeLeast Least problem = ⊤

-- the sizes that are chosen so, and what holds of them
pub record AreSizesBy (sizing : Sizing) (problem : Problem) (sizes : List ℕ) : Type 0 where
  pub table : All (IsInTable problem.count) problem.demands
  pub none_out : first_out problem.count problem.demands ≡ None
  pub exact : AreExact sizing problem sizes
  pub total : total_of problem sizes < 2 ^ 64
  pub fits : Fits problem sizes
  pub bound : EachIndex sizes (λ i. slice_index sizes i ≤ top_minimum problem.demands i)
  pub least : MustBeLeast sizing problem → IsLeast problem sizes

-- they are too large, and where they are least so is every list that fits
pub record AreTooLargeBy (sizing : Sizing) (problem : Problem) : Type 0 where
  pub table : All (IsInTable problem.count) problem.demands
  pub none_out : first_out problem.count problem.demands ≡ None
  pub too_large : (sizes : List ℕ) → AreExact sizing problem sizes → IsTooLarge problem sizes
  pub others_too_large : MustBeLeast sizing problem → (other : List ℕ) → Fits problem other → IsTooLarge problem other

-- why there are no sizes: out of the table by the first cell that overflows it, else too large. An allocation may fail in
-- place of any answer
abbrev pub IsRefused : Sizing → Problem → LayoutError → Type 0
IsRefused sizing problem (OutOfTable position) = first_out problem.count problem.demands ≡ Some position
IsRefused sizing problem TooLarge = AreTooLargeBy sizing problem
IsRefused sizing problem (Memory e) = ⊤

-- what is asked for of a problem, or why there is none
abbrev pub Answers : {A : Type 0} → Sizing → (Problem → A → Type 0) → Problem → Result A LayoutError → Type 0
Answers sizing holds problem (Ok answer) = holds problem answer
Answers sizing holds problem (Err e) = IsRefused sizing problem e

-- the sizes, or why there are none
abbrev pub IsSized : {Z : Type 0} → Sizing → Problem → Result (Vec ℕ Z) LayoutError → Type 0
IsSized {Z} sizing problem result = Answers sizing (λ p (sizes : Vec ℕ Z). AreSizesBy sizing p sizes.items) problem result

-- the sum of the sizes, and of all lines
pub record IsTotal (sizing : Sizing) (problem : Problem) (total : ℕ) : Type 0 where
  pub sizes : List ℕ
  pub are_sizes : AreSizesBy sizing problem sizes
  pub adds_up : total ≡ total_of problem sizes

-- the positions that are listed, if there are any
abbrev pub positions_of : Option (Vec Position Global) → Option (List Position)
positions_of certificate = option_map (λ positions. positions.items) certificate

-- the positions of the cells that certify that the sizes are least. By shares there are none where two longer ranges are
-- neither nested nor disjoint, and only there; least sizes always have them
abbrev pub IsCertificateBy : Sizing → Problem → Option (List Position) → Type 0
IsCertificateBy ByShares problem None = NoneCertify problem
IsCertificateBy ByShares problem (Some positions) = AreCertifying problem positions
IsCertificateBy Least problem None = ⊥
IsCertificateBy Least problem (Some positions) = AreCriticalPath problem positions

-- the same of a list as it is held
abbrev pub Certifies : Sizing → Problem → Option (Vec Position Global) → Type 0
Certifies sizing problem certificate = IsCertificateBy sizing problem (positions_of certificate)

-- what a solver finds of a problem: the sizes that are chosen so, and their total with all lines. Where it is asked for a
-- certificate it finds one of which this holds, else none
pub record IsSolvedBy (sizing : Sizing) (certifies : Problem → Option (Vec Position Global) → Type 0)
    (certify : Bool) (problem : Problem) (solved : Solved) : Type 0 where
  pub sizes : AreSizesBy sizing problem solved.sizes.items
  pub total : solved.total ≡ total_of problem solved.sizes.items
  pub asked : certify ≡ true → certifies problem solved.certificate
  pub unasked : certify ≡ false → solved.certificate ≡ None
