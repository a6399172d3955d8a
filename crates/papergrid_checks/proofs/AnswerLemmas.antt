-- What a caller says of an answer, by what a call said of it.
use Rattle.std.proofs.Common.{◌≤◌, ℕ, List, arith}
use Rattle.std.specs.Prelude.{Err, MatchResult, Ok, Result, sum}
use Rattle.papergrid_tracks.specs.declared.error.LayoutError.{LayoutError}
use Rattle.papergrid_tracks.specs.declared.error.LayoutError.TheVariants.{OutOfTable, TooLarge, Memory}
use Rattle.papergrid_tracks.specs.Fits.{Fits}
use Rattle.papergrid_tracks.specs.Problem.{Problem}
use Rattle.papergrid_layout.specs.Answers.{UnlessMemory}
use Rattle.papergrid_tracks.specs.Sizings.{Answers, IsRefused, IsTotal}
use Rattle.papergrid_tracks.specs.declared.sizing.Sizing.TheVariants.{ByShares}

module _ {V C : Type 0} (Tells : List (List C) → Type 0) (Said Known : List (List C) → Result V LayoutError → Type 0)
    (each : (cells : List (List C)) (result : Result V LayoutError) → Said cells result → Known cells result) where
  -- of the same cells, whatever was answered
  pub said_of_cells : (result : Result V LayoutError) → UnlessMemory result ((cells : List (List C)) × Tells cells × Said cells result)
      → UnlessMemory result ((cells : List (List C)) × Tells cells × Known cells result)
  said_of_cells (Ok found) is = (is.0, is.1, each is.0 _ is.2)
  said_of_cells (Err (OutOfTable place)) is = (is.0, is.1, each is.0 _ is.2)
  said_of_cells (Err TooLarge) is = (is.0, is.1, each is.0 _ is.2)
  said_of_cells (Err (Memory e)) is = tt

-- sizes with room stand behind a total
pub fitting_total : (problem : Problem) (result : Result ℕ LayoutError) → Answers ByShares (IsTotal ByShares) problem result
    → Answers ByShares (λ p total. (sizes : List ℕ) × (sum sizes ≤ total) × Fits p sizes) problem result
fitting_total problem (Ok total) is = (is.sizes, omega (arith, is.adds_up), is.are_sizes.fits)
fitting_total problem (Err e) is = is

-- what holds of each total holds of the one answered
pub answer_covers : (problem : Problem) (covers : ℕ → Type 0) → ((total : ℕ) → IsTotal ByShares problem total → covers total)
    → (result : Result ℕ LayoutError) → Answers ByShares (IsTotal ByShares) problem result → MatchResult result covers (IsRefused ByShares problem)
answer_covers problem covers each (Ok total) is = each total is
answer_covers problem covers each (Err e) is = is
