-- Least sizes beside those by shares, along a direction.
use Rattle.std.proofs.Common.{◌≡◌, ◌∙◌, ℕ, List, sym, arith}
use Rattle.papergrid_values.specs.declared.position.Position.{Position}
use Rattle.papergrid_tracks.proofs.BySizing.{AreLeastSizes, AreSizes}
use Rattle.papergrid_tracks.specs.Answers.{IsAccepted}
use Rattle.papergrid_tracks.specs.Fits.{IsLeast}
use Rattle.papergrid_tracks.specs.LeastAnswers.{AreCriticalPath}
use Rattle.papergrid_tracks.specs.Problem.{Problem}
use Rattle.papergrid_tracks.specs.Ranges.{IsLaminar}
use Rattle.papergrid_tracks.proofs.LeastLemmas.{exact-least, least_of-shares, same-least_of}

module _ (problem : Problem) where
  -- the certificate of least sizes is one that a checker accepts
  pub accepted : (sizes : List ℕ) (places : List Position) → AreLeastSizes problem sizes → AreCriticalPath problem places → IsAccepted problem sizes places
  accepted sizes places are critical_path_is = grind arith

  pub same-least : (sizes least : List ℕ) → AreSizes problem sizes → AreLeastSizes problem least → IsLeast problem sizes → least ≡ sizes
  same-least sizes least are are_least is_least = grind (arith, exact-least, least_of-shares)

  pub same-laminar : (sizes least : List ℕ) → AreSizes problem sizes → AreLeastSizes problem least → IsLaminar problem.demands → least ≡ sizes
  same-laminar sizes least are are_least laminar = exact-least problem least are_least ∙ same-least_of problem are.table laminar ∙ sym are.exact
