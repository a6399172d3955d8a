-- What an estimate takes of what is found.
use Rattle.std.proofs.Common.{◌≡◌, ℕ, List, arith}
use Rattle.std.specs.Prelude.{Result, Ok, Err, IfOk, MatchResult, ⊤}
use Rattle.papergrid_values.specs.declared.per_direction.PerDirection.{PerDirection}
use Rattle.papergrid_maps.specs.Grids.{Grid}
use Rattle.papergrid_tracks.specs.declared.error.LayoutError.{LayoutError}
use Rattle.papergrid_tracks.specs.declared.solution.Solved.{Solved}
use Rattle.papergrid_tracks.specs.Problem.{Problem}
use Rattle.papergrid_tracks.specs.Sizings.{AreSizesBy}
use Rattle.papergrid_tracks.specs.declared.sizing.Sizing.{Sizing}
use Rattle.papergrid_layout.specs.Answers.{AnswersBoth, AreBothSizes, UnlessMemory}

module _ (old-wide old-high wide high : List ℕ) (result : Result ⊤ LayoutError) where
  -- the sizes that were found are taken, or the old ones stay
  abbrev Takes : Result (PerDirection Solved) LayoutError → Type 0
  Takes found = MatchResult found
      (λ sizes. (result ≡ Ok tt) × (wide ≡ sizes.columns.sizes.items) × (high ≡ sizes.rows.sizes.items))
      (λ error. (result ≡ Err error) × (wide ≡ old-wide) × (high ≡ old-high))

  -- sizes that are taken are those of the records
  pub estimated : {C : Type 0} (grid : Grid) (measure : C → ℕ × ℕ) (columns : ℕ) (IsTold : List (List C) → Type 0)
      (sizing : Sizing) (solves : Problem → Solved → Type 0)
      → ((problem : Problem) (solved : Solved) → solves problem solved → AreSizesBy sizing problem solved.sizes.items)
      → (found : Result (PerDirection Solved) LayoutError)
      → UnlessMemory found ((cells : List (List C)) × IsTold cells × AnswersBoth grid measure columns cells sizing solves found) → Takes found
      → IfOk result (λ _. (cells : List (List C)) × IsTold cells × AreBothSizes grid measure columns cells sizing wide high)
  estimated grid measure columns IsTold sizing solves sizes (Ok found) told takes = grind arith
  estimated grid measure columns IsTold sizing solves sizes (Err error) told takes = rw takes.0 tt
