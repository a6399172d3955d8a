-- What the solvers find, of cells that are walked by row and then by column.
use Rattle.std.proofs.Common.{ℕ, Bool, true, List, refl, arith}
use Rattle.std.specs.Prelude.{Result, Ok, Err}
use Rattle.papergrid_values.specs.declared.per_direction.PerDirection.{PerDirection}
use Rattle.papergrid_maps.specs.Grids.{Grid}
use Rattle.papergrid_tracks.specs.declared.solution.Solved.{Solved}
use Rattle.papergrid_tracks.specs.Sizings.{Answers, Certifies, IsSolvedBy}
use Rattle.papergrid_tracks.specs.ForProofs.Demands.{StandInOrder}
use Rattle.papergrid_tracks.specs.ForProofs.LeastSettled.{CertifiesInOrder}
use Rattle.papergrid_tracks.specs.declared.error.LayoutError.{LayoutError}
use Rattle.papergrid_tracks.specs.declared.error.LayoutError.TheVariants.{Memory, OutOfTable, TooLarge}
use Rattle.papergrid_tracks.specs.declared.sizing.Sizing.{Sizing}
use Rattle.papergrid_tracks.specs.Problem.{Problem}
use Rattle.papergrid_tracks.proofs.AnswerLemmas.{Certifies-in_order}
use Rattle.papergrid_layout.specs.Answers.{AnswersBoth, UnlessMemory}
use Rattle.papergrid_layout.specs.Certificates.{IsCertifiedBy}

module _ (sizing : Sizing) (certify : Bool) (problem : Problem) (ordered : StandInOrder problem.demands) where
  -- what certifies the sizes is known, since the demands stand in order
  pub solved-in_order : (solved : Solved) → IsSolvedBy sizing (CertifiesInOrder sizing) certify problem solved →
      IsSolvedBy sizing (Certifies sizing) certify problem solved
  solved-in_order solved is = grind (arith, Certifies-in_order)

  pub answers-in_order : (result : Result Solved LayoutError) → Answers sizing (IsSolvedBy sizing (CertifiesInOrder sizing) certify) problem result →
      Answers sizing (IsSolvedBy sizing (Certifies sizing) certify) problem result
  answers-in_order (Ok solved) is = solved-in_order solved is
  answers-in_order (Err e) is = is

module _ {C : Type 0} (grid : Grid) (measure : C → ℕ × ℕ) (columns : ℕ) (IsTold : List (List C) → Type 0) (sizing : Sizing) where
  -- what holds of both directions
  abbrev Told : (Problem → Solved → Type 0) → Result (PerDirection Solved) LayoutError → Type 0
  Told holds result = UnlessMemory result ((cells : List (List C)) × IsTold cells × AnswersBoth grid measure columns cells sizing holds result)

  certified-along : (problem : Problem) (solved : Solved) → IsSolvedBy sizing (Certifies sizing) true problem solved → IsCertifiedBy sizing problem solved
  certified-along problem solved is = record { sizes = is.sizes; total = is.total; certificate = is.asked refl }

  -- with the certificates that were asked for
  pub certified : (result : Result (PerDirection Solved) LayoutError) → Told (IsSolvedBy sizing (Certifies sizing) true) result → Told (IsCertifiedBy sizing) result
  certified (Ok found) told = grind (arith, certified-along)
  certified (Err (OutOfTable p)) told = told
  certified (Err TooLarge) told = told
  certified (Err (Memory e)) told = told
