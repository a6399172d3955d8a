-- The first cut that is tried.
use Rattle.std.specs.Prelude.{◌≡◌, ◌<◌, ◌≤◌, ◌⊎◌, ℕ, List, Some}
use Rattle.papergrid_csv.specs.Shown.{AreCut}

-- the first cut to try, of at most so many columns: each greater one of those changes no field of these rows
pub record IsFirstCut (width : ℕ) (rows : List (List (List ℕ))) (first : ℕ) : Type 0 where
  pub within : first ≤ width
  pub some : (width ≡ 0) ⊎ (1 ≤ first)
  pub same : (cut : ℕ) → first < cut → cut ≤ width → AreCut (Some cut) rows rows
